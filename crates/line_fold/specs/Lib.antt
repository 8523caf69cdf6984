pub mod Examples
pub mod Folding
pub mod Lines
pub mod laws
