pub mod Tallies
pub mod Moves
pub mod Resting
pub mod Turns
