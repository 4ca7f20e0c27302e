pub mod Rows
pub mod Decided
pub mod ElementTurns
pub mod TurnsOn
