mod Writing
mod Reading
pub mod Recorded
