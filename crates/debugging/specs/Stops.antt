-- Defines why the debugging of a program ended early.
use Rattle.std.specs.Prelude.{ℕ, Result, Err}
use Rattle.debugger_script.specs.declared.fault.ScriptFault.TheVariants as fault
use Rattle.judge.specs.Faults as judge
use Rattle.judge.specs.Programs.{NotRun}
use Rattle.debugging.specs.declared.stop.DebugStop.{DebugStop}
use Rattle.debugging.specs.declared.stop.DebugStop.TheVariants as stop

-- Nothing of the script was executed.
abbrev pub IsBefore : DebugStop → Type 0
IsBefore (stop.Judge why) = Unit {0}
IsBefore (stop.Script why) = ⊥

-- The fault is the reason that the definition gives, unless memory ran out or the script ended early.
abbrev pub IsStop : {A : Type 0} → DebugStop → Result A NotRun → Type 0
IsStop (stop.Judge why) said = judge.IsFault why said
IsStop (stop.Script why) said = Unit {0}

-- A fault of an input names one of this number of files.
abbrev pub NamesFile : ℕ → DebugStop → Type 0
NamesFile files (stop.Judge why) = judge.NamesFile files why
NamesFile files (stop.Script why) = Unit {0}

-- Returns the number of the reader's failures that a result reports: 1 for `Read`, else 0.
abbrev pub failed_reads : {A : Type 0} → Result A DebugStop → ℕ
failed_reads (Err (stop.Script fault.Read)) = 1
failed_reads _ = 0

-- Returns the number of the writer's failures that a result reports: 1 for `Write`, else 0.
abbrev pub failed_writes : {A : Type 0} → Result A DebugStop → ℕ
failed_writes (Err (stop.Script fault.Write)) = 1
failed_writes _ = 0
