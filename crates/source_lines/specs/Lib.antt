pub mod Lines
pub mod SourceLines
