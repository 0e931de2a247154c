pub mod RefinedPoints
pub mod Mean
