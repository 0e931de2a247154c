pub mod Tables
pub mod Closed
