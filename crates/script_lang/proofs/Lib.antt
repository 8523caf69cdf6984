pub mod Digits
pub mod Fronts
pub mod Pieces
pub mod RowTexts
pub mod Sources
pub mod WordLemmas
