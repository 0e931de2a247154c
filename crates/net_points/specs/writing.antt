pub mod Laid
pub mod Shapes
