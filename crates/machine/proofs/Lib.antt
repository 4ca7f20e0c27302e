mod Answered
mod Callers
mod Deciding
mod EntryLaws
mod LocalDecisions
mod Made
mod OnLaws
mod Others
pub mod RunLaws
mod Sites
mod StatusLaws
mod FastDecisions
