pub mod Sessions
pub mod Stops
