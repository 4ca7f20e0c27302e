pub mod LineLaws
pub mod OutsideLaws
pub mod Resolved
pub mod UnmatchedLaws
