-- Laws of the definitions beside this file, for proofs of callers. No public contract needs them.
pub mod Counting
pub mod Crashes
pub mod Damages
pub mod Events
pub mod Histories
pub mod LogCalls
pub mod Logging
pub mod Opening
pub mod Reading
pub mod Since
pub mod Stepping
pub mod Steps
pub mod Working
