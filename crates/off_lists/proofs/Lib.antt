pub mod Bad
pub mod Naturals
pub mod Readings
pub mod Facing
pub mod Parts
