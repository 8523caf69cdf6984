-- Lemmas on the curve that crates above cite. No public contract needs them.
pub mod Quadrants
pub mod Bounds
pub mod Points
pub mod Squares
