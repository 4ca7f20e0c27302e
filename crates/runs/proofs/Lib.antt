pub mod ChosenTurns
pub mod Continued
mod CountedTurns
mod KeptThreads
mod NextTurns
mod TurnsOn
mod UncaughtLaws
