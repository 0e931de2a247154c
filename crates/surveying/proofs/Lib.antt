pub mod Tallies
pub mod Each
pub mod Surveys
