pub mod Steps
pub mod Scans
pub mod Listed
pub mod Squares
pub mod Joins
pub mod Foldings
