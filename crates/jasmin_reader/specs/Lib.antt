pub mod Members
pub mod Readings
pub mod Written
