pub mod Sums
pub mod Tangents
