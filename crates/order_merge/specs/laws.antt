-- Lemmas on lists of entries that crates above cite. No public contract needs them.
pub mod Living
pub mod Adding
pub mod Moves
pub mod Numbers
pub mod Deletions
