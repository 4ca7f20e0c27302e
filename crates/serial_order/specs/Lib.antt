pub mod Chains
pub mod Serial
pub mod Spans
