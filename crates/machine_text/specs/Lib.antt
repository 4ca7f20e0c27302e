pub mod Objects
pub mod Outcomes
pub mod Parts
pub mod Places
pub mod Threads
pub mod Values
