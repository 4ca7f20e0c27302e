pub mod Faults
pub mod Modes
pub mod Names
