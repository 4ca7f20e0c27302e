pub mod Ancestors
pub mod Chains
pub mod Declarations
pub mod Hierarchy
pub mod Marks
pub mod MethodNames
pub mod Numbers
pub mod Ordered
pub mod PersistentArrays
pub mod Places
pub mod Searches
pub mod Slots
pub mod Starts
pub use Rattle.descriptor.specs as descriptor
