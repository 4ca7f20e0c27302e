pub mod FieldTexts
pub mod Resolutions
pub mod Selections
pub mod Signatures
pub mod Tables
pub mod TablesOf
pub use Rattle.classes.specs as classes
