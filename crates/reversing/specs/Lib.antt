pub mod States
pub mod Written
