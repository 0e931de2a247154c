pub mod Turn
pub mod Nets
pub mod Lists
pub mod Theorem
pub mod Examples
