pub mod Joins
pub mod Digits
pub mod Numbers
pub mod Pages
pub mod Returns
