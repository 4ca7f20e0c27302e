pub mod Conflicts
pub mod Cycles
pub mod Orders
pub mod Reach
pub mod Rearrangements
pub mod Specification
pub mod Transactions
pub mod Verdicts
