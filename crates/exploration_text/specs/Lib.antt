pub mod Texts
pub use Rattle.exploring.specs.explore_jobs as explore_jobs
pub use Rattle.exploring.specs as exploring
