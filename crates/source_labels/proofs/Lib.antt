pub mod Any
pub mod Steps
