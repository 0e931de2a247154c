pub mod Neighbours
pub mod Walked
