pub mod Faults
pub mod Programs
pub mod Shrunk
pub mod Texts
