pub mod text
