pub mod Marks
pub mod Operations
