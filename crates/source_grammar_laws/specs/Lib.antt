pub mod Directives
pub mod Instructions
pub mod Lines
pub mod Numbers
pub mod Sources
pub mod Words
