pub mod header
pub mod lists
