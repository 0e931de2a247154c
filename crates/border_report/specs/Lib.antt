pub mod misses
pub mod border_misses
