pub mod LineLaws
pub mod SourceLaws
pub mod TableLaws
