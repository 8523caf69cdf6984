pub mod Allowed
pub mod Images
pub mod Poking
pub mod Records
