pub mod Campaigns
pub mod Faults
pub mod Spans
