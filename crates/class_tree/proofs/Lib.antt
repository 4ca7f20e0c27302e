pub mod Collected
pub mod Items
pub mod PoolTexts
pub mod Referred
