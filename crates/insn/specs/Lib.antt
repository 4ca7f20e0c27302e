pub mod Locating
pub mod Operands
pub mod Places
