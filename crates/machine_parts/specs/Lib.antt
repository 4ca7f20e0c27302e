pub mod Before
pub mod Constants
pub mod Decided
pub mod Machine
pub mod Marks
pub mod Ready
pub mod Saved
pub mod Sites
pub use Rattle.machine_thread.specs.Tops
pub use Rattle.machine_thread.specs.classes as classes
pub use Rattle.machine_thread.specs.exec as exec
pub use Rattle.machine_thread.specs.frame_turns as frame_turns
pub use Rattle.machine_thread.specs.heap as heap
pub use Rattle.machine_thread.specs as machine_thread
pub use Rattle.machine_thread.specs.program as program
