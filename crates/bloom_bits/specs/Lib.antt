pub mod Hash
pub mod Filter
pub mod Fault
