pub mod Behind
pub mod Cuts
pub mod Escapes
pub mod Keys
pub mod Readings
