pub mod ProgramNames
pub mod RunNames
