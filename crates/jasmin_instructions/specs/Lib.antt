pub mod Saying
pub mod Views
