pub mod Faults
pub mod Ledger
pub mod Rules
pub mod Promise
pub mod Script
pub mod Printed
