mod Answered
mod AuditLaws
pub mod OneTable
mod TableLaws
mod WholeLaws
