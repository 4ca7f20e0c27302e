pub mod Choices
pub mod Endings
pub mod Kept
pub use Rattle.machine.specs as machine
pub use Rattle.schedule.specs as schedule
