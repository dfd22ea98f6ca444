pub mod Rows
pub mod Powers
pub mod Order
pub mod Folding
pub mod Claims
pub mod Weights
pub mod Quick
