pub mod differences
pub mod Planes
