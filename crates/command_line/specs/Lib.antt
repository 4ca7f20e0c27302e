pub mod ExploreLimits
pub mod JobNumbers
pub mod Screen
