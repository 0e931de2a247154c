pub mod writing
