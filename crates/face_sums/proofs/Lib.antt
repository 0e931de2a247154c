pub mod Marks
pub mod Laws
pub mod Parts
