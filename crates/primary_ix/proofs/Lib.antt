pub mod Everything
pub mod Memory
pub mod Passed
pub mod Rebuilt
pub mod Stored
pub mod Whole
