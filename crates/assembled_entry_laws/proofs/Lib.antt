pub mod Entries
pub mod Keeping
pub mod Operands
pub mod Steps
