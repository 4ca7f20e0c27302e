mod Alone
mod Beside
mod Candidates
mod Choices
mod Colons
mod Departures
mod Positions
mod Priorities
pub mod Ranges
mod Spelling
mod Stays
mod Texts
mod Words
