pub mod Failures
pub mod Further
pub mod Least
pub mod Parts
pub mod Searches
pub use Rattle.runs.specs as runs
