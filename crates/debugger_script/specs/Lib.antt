pub mod Answers
pub mod Carried
pub mod Failures
pub mod Scripts
pub mod Taken
