pub mod Answers
pub mod Batches
pub mod Counts
pub mod Explorations
pub mod Growths
pub mod Levels
pub mod Searches
pub mod Thorough
pub use Rattle.explore_jobs.specs as explore_jobs
