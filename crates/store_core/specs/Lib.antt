pub mod Begun
pub mod Refusals
pub mod Regions
pub mod Stores
pub mod Tested
pub mod Writing
