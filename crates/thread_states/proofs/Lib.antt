pub mod Changes
pub mod Marks
pub mod Steps
pub mod Tables
pub mod Tops
pub mod Positions
