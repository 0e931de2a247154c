pub mod digits
pub mod Cursor
