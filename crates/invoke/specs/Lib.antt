pub mod Calling
pub use Rattle.machine_parts.specs.heap as heap
pub use Rattle.machine_parts.specs as machine_parts
pub use Rattle.machine_parts.specs.machine_thread as machine_thread
pub use Rattle.machine_parts.specs.program as program
