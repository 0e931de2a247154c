pub mod Positions
pub mod Deltas
