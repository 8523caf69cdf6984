-- Laws of the definitions beside this file, for the crates above. No public contract needs them.
pub mod Agreeing
pub mod Fitting
pub mod Memory
