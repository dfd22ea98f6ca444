pub mod Faults
pub mod Parts
pub mod Fields
pub mod Contents
pub mod Folded
pub mod Noting
pub mod Answers
