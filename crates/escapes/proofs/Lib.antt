pub mod Cutting
pub mod Spelling
pub mod Members
pub mod Dots
pub mod Behind
