pub mod Inside
pub mod Memory
pub mod Planned
pub mod TornImages
