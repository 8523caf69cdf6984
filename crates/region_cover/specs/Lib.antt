pub mod Cover
pub mod Steps
