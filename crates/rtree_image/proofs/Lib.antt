pub mod Bounded
pub mod Loading
pub mod Picked
pub mod Ascending
pub mod Pruned
pub mod Shown
pub mod Walked
pub mod Downward
