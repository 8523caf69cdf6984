pub mod Closing
pub mod Counting
pub mod Joining
pub mod Leaving
pub mod Ready
pub mod Starting
pub mod Zeros
