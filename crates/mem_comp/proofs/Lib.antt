pub mod Searched
pub mod Edits
