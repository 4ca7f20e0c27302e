pub mod Atomicities
pub mod Choices
pub mod Named
pub mod Plans
pub mod Reports
pub use Rattle.program_runs.specs.machine as machine
pub use Rattle.program_runs.specs as program_runs
pub use Rattle.program_runs.specs.runs as runs
pub use Rattle.program_runs.specs.schedule as schedule
