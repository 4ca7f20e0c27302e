-- Defines why an exploration has no answer, or why it wasn't written.
use Rattle.std.specs.Prelude.{◌≡◌, ℕ, List, Result, Ok}
use Rattle.jvms_program.specs.declared.program.Class.{Class}
use Rattle.explorations.specs.declared.fault.ExplorationFault.{ExplorationFault}
use Rattle.explorations.specs.declared.fault.ExplorationFault.TheVariants as fault
use Rattle.judge.specs.Faults as judge
use Rattle.judge.specs.Programs.{NotRun}

-- There is a program that the plan fits.
abbrev pub IsFitted : Result (List Class) NotRun → Type 0
IsFitted said = (program : List Class) × (said ≡ Ok program)

-- The fault of a program is the first one, unless memory ran out.
abbrev pub IsFault : ExplorationFault → Result (List Class) NotRun → Type 0
IsFault (fault.Judge why) said = judge.IsFault why said
IsFault fault.Output said = IsFitted said

-- A fault of an input names one of this number of files.
abbrev pub NamesFile : ℕ → ExplorationFault → Type 0
NamesFile files (fault.Judge why) = judge.NamesFile files why
NamesFile files fault.Output = Unit {0}
