pub mod Firsts
pub mod Interning
pub mod Numbered
pub mod Reading
pub mod Texts
pub mod Writing
