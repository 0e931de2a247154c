pub mod Words
pub mod Cursors
