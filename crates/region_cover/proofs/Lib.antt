pub mod Gathering
pub mod Values
pub mod Meeting
pub mod Covered
