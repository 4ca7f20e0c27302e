pub mod ThreadStates
pub mod Open
pub mod Seen
pub mod Positions
pub use Rattle.atom_spec.specs as atom_spec
