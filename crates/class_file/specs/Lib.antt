pub mod Contents
pub mod Opening
pub mod Seen
pub mod Spelled
pub mod Wanted
pub mod Writing
