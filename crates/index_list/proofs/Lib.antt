pub mod Rows
pub mod Striped
pub mod Turns
