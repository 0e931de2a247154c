pub mod Constraints
pub mod Chosen
pub mod starts
pub mod visiting
pub mod spreading
pub mod choosing
