pub mod Few
pub mod Starting
pub mod Writing
