pub mod Sound
pub mod Points
pub mod Sizes
