pub mod Audits
pub mod Halts
pub mod Shares
pub mod Tables
pub mod Whole
