pub mod Groups
pub mod Hex
pub mod Bundle
pub mod Proofs
pub mod Stops
