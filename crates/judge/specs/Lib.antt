pub mod Faults
pub mod Judgement
pub mod Programs
pub mod Runs
pub mod Shown
pub use Rattle.program_runs.specs as program_runs
