pub mod Hints
pub mod Lacks
pub mod Lines
pub mod Named
pub mod Outside
pub mod Supers
pub mod Unmatched
