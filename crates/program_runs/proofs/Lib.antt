pub mod Checked
pub mod Fed
pub mod ShownRuns
