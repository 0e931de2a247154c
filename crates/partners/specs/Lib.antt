pub mod Lists
pub mod Partner
pub mod Keys
