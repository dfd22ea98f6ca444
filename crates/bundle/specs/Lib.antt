pub mod Faults
pub mod Layout
pub mod Bodies
pub mod Laws
pub mod Checks
