pub mod Entries
pub mod Faults
pub mod Kept
pub mod Named
