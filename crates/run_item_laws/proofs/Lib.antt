pub mod CallChanges
pub mod EventCounts
pub mod Matching
pub mod Runs
