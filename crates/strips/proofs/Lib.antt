pub mod Cases
pub mod Strips
pub mod Rowed
pub mod Plains
pub mod Stood
