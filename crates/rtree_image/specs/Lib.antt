pub mod Rows
pub mod Bounds
pub mod Image
pub mod Visits
pub mod Damage
pub mod Steps
