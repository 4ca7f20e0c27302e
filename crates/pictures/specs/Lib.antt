pub mod Rows
pub mod Sketches
