pub mod Checked
pub mod Request
pub mod columns
pub mod edges
pub mod vertices
