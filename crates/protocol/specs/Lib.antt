pub mod Group
pub mod Halving
pub mod Weights
pub mod Quick
