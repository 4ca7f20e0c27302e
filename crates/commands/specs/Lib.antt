pub mod Choices
pub mod Evaluation
pub mod Faults
pub mod Limits
pub mod Lines
pub mod Missing
pub mod Screen
