pub mod Claims
pub mod Plain
