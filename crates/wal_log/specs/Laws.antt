-- Laws of the definitions beside this file, for proofs of callers. No public contract needs them.
pub mod Agreeing
pub mod Apart
pub mod Later
pub mod Staying
