pub mod Bodies
pub mod Classes
pub mod Fields
pub mod Instructions
pub mod Kept
pub mod Methods
pub mod Names
