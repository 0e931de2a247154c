pub mod Laws
pub mod Identity
pub mod Sum
pub mod Derivative
pub mod Tapering
pub mod Samples
pub mod Rows
