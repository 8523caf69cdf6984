-- Laws of histories and of what passes made.
pub mod Totals
pub mod Marks
pub mod Shares
pub mod Owners
