pub mod Loops
pub mod Readings
pub mod Words
