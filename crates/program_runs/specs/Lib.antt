pub mod Faults
pub mod Judgements
pub mod Shown
pub use Rattle.atom_graph.specs as atom_graph
pub use Rattle.runs.specs.machine as machine
pub use Rattle.runs.specs as runs
pub use Rattle.runs.specs.schedule as schedule
