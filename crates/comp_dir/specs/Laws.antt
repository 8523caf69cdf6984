-- Laws of the definitions beside this file, for proofs of callers. No public contract needs them.
pub mod Adding
pub mod Agreeing
pub mod Closing
pub mod OneMore
pub mod Spelled
pub mod Staying
