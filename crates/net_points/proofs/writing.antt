pub mod Laws
pub mod Parts
pub mod Groups
pub mod Fill
