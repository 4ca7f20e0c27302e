pub mod Loop
pub mod Readings
