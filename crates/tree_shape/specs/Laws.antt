-- Laws of the definitions beside this file, for the crates above. No public contract needs them.
pub mod Sizes
pub mod Covers
pub mod Numbers
pub mod Places
