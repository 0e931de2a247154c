pub mod Rings
pub mod Taken
