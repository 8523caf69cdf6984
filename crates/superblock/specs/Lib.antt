pub mod Calls
pub mod Laws
pub mod Saying
pub mod Superblock
