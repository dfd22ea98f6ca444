pub mod Steps
pub mod Rules
