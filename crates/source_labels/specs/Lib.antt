pub mod Faults
pub mod Leading
pub mod Places
