pub mod Tops
pub use Rattle.frame_turns.specs.classes as classes
pub use Rattle.frame_turns.specs.exec as exec
pub use Rattle.frame_turns.specs as frame_turns
pub use Rattle.frame_turns.specs.frames as frames
pub use Rattle.frame_turns.specs.heap as heap
pub use Rattle.frame_turns.specs.program as program
