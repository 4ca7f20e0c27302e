pub mod Numbers
pub mod Variables
pub mod Lines
pub mod OneReading
pub mod Cuts
