pub mod Gaps
pub mod Extents
pub mod Near
