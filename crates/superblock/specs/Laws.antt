-- Laws of the definitions beside this file, for proofs of callers. No public contract needs them.
pub mod Agreeing
