pub mod Cubic
pub mod Lanes
pub mod Values
pub mod Laws
pub mod Groups
pub mod Sizes
