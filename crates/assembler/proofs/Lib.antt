pub mod Failing
pub mod Instances
pub mod Loops
pub mod Spelled
