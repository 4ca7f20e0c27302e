pub mod Lookups
pub mod Numbering
pub mod Units
