pub mod History
pub mod Rows
pub mod Rule
pub mod Steps
pub mod Resting
pub mod Passes
pub mod Owners
pub mod Laws
