pub mod Lanes
pub mod Paired
