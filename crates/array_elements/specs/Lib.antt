pub mod Elements
pub mod Kinds
pub use Rattle.descriptor.specs as descriptor
