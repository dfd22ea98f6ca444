pub mod Taken
pub mod Lays
pub mod Wrote
