pub mod PointOrder
pub mod Prefix
pub mod Ranges
