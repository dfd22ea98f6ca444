pub mod Quick
pub mod Inside
