pub mod FactLaws
pub mod EventLaws
pub mod ViewLaws
pub mod ReachedLaws
pub mod TableSteps
