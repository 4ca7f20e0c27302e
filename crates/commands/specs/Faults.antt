-- Defines why nothing was run, or why its text wasn't written.
use Rattle.std.specs.Prelude.{◌≡◌, ℕ, List, Option, Result, Ok}
use Rattle.trace.specs.Bytes.{AppendsBeginning}
use Rattle.judge.specs.Faults as judge
use Rattle.judge.specs.Programs.{NotRun}
use Rattle.commands.specs.declared.fault.RunFault.{RunFault}
use Rattle.commands.specs.declared.fault.RunFault.TheVariants as run_fault

-- The fault is the reason of the definition, unless memory ran out or the writer failed.
abbrev pub IsFault : {A : Type 0} → RunFault → Result A NotRun → Type 0
IsFault (run_fault.Judge fault) said = judge.IsFault fault said
IsFault run_fault.Output said = Unit {0}

-- A fault of a file names one of this number of files.
abbrev pub NamesFile : ℕ → RunFault → Type 0
NamesFile files (run_fault.Judge fault) = judge.NamesFile files fault
NamesFile files run_fault.Output = Unit {0}

-- A prefix of the text of a run was written.
abbrev pub WroteBeginning : {A : Type 0} → Result A NotRun → (A → List ℕ) → Option (List ℕ) → Option (List ℕ) → Type 0
WroteBeginning {A} said text old new = (shown : A) × (said ≡ Ok shown) × AppendsBeginning old new (text shown)
