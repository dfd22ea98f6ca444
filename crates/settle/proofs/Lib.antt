pub mod Reading
pub mod Passes
pub mod Again
pub mod Free
pub mod Admitting
pub mod Underway
pub mod Passing
pub mod Opening
