pub mod Lookup
pub mod Lines
pub mod Parts
pub mod Decisions
pub mod Specs
pub mod Tables
