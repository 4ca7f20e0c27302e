pub mod Touched
pub use Rattle.heap.specs.classes as classes
pub use Rattle.exec.specs as exec
pub use Rattle.frames.specs as frames
pub use Rattle.heap.specs as heap
pub use Rattle.heap.specs.program as program
pub use Rattle.trace.specs as trace
