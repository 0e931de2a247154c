pub mod Lists
pub mod Places
pub mod Theorems
pub mod Laws
pub mod Examples
