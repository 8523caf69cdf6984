pub mod Commands
pub mod Upkeep
