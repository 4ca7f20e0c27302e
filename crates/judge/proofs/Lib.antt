mod Classes
pub mod Faults
