pub mod Scanned
pub mod Laws
pub mod Theorems
