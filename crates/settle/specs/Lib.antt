pub mod Meeting
pub mod Cases
