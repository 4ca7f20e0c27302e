mod JobCodes
pub mod JobResults
mod JobRuns
pub mod OneResult
pub mod PartJobs
mod SeededChoices
