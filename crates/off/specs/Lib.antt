pub mod checking
