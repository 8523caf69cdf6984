pub mod Calls
pub mod Fault
pub mod History
pub mod Space
