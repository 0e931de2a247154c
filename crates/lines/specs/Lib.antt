pub mod Lines
pub mod words
