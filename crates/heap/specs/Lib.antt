pub mod Arrays
pub mod FirstValues
pub mod Objects
pub mod PrimitiveArrays
pub mod Statics
pub mod Stored
pub use Rattle.program.specs.classes as classes
pub use Rattle.program.specs as program
