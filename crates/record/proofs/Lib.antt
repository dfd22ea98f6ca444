pub mod Pieces
pub mod Reckoning
pub mod Passing
