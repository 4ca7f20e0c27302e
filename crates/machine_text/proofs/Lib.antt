pub mod Chains
pub mod Keys
pub mod Rests
pub mod Reversed
pub mod Views
