pub mod Linking
pub mod Spelled
pub mod Supers
