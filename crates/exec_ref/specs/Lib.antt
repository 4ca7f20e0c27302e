pub mod Affecting
pub mod Asked
pub mod Counting
pub mod Events
pub mod InstanceTests
pub use Rattle.machine_parts.specs.classes as classes
pub use Rattle.machine_parts.specs.exec as exec
pub use Rattle.machine_parts.specs.frame_turns as frame_turns
pub use Rattle.heap.specs as heap
