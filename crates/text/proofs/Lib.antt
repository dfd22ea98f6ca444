pub mod Scans
pub mod Values
