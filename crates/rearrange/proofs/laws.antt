pub mod Words
pub mod Lengths
pub mod Planes
pub mod Theorems
pub mod Examples
