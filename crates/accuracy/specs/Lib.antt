pub mod Rounding
pub mod Bounds
