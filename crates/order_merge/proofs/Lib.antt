pub mod Least
pub mod Lent
pub mod Merged
