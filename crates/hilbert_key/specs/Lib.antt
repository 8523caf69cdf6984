pub mod Curve
pub mod Cells
pub mod laws
