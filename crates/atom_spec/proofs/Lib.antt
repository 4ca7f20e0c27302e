pub mod Patterns
pub mod SpecLines
pub mod TextLines
pub mod OneReading
pub mod LookupLaws
pub mod DecisionLaws
pub mod BuiltIns
