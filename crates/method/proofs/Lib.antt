pub mod Refused
pub mod Foldings
pub mod Bits
pub mod Weighing
pub mod Sized
pub mod QuickChecks
pub mod Weighted
