pub mod Laws
pub mod Lists
pub mod Theorems
pub mod TangentLaws
pub mod TangentSizes
