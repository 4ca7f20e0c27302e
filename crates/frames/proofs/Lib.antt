pub mod Tops
pub mod Filled
pub mod Halves
pub mod Locals
pub mod OpenFrames
