-- Laws of the definitions beside this file, for proofs of callers. No public contract needs them.
pub mod CallLists
pub mod Chained
pub mod Frame
pub mod Images
pub mod Plans
pub mod Ranges
pub mod Reads
pub mod Runs
pub mod Trail
