pub mod Examples
pub mod Formatting
pub mod Planning
