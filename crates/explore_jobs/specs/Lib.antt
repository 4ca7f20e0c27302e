pub mod Children
pub mod Fates
pub mod Plans
pub mod Stays
pub use Rattle.campaign_jobs.specs as campaign_jobs
pub use Rattle.campaign_jobs.specs.program_runs as program_runs
