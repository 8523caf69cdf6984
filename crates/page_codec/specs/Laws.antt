-- Laws of the definitions beside this file, for the crates above. No public contract needs them.
pub mod Writing
pub mod Written
