pub mod Openings
pub mod Read
pub mod Restored
