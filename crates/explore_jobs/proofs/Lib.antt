mod Fated
pub mod Taken
