pub mod Scanning
pub mod Parameters
pub mod Answered
pub mod Methods
