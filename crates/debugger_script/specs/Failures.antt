-- Defines the counts of failed calls of a reader and a writer.
use Rattle.std.specs.Prelude.{ℕ, Result, Err}
use Rattle.debugger_script.specs.declared.fault.ScriptFault.{ScriptFault}
use Rattle.debugger_script.specs.declared.fault.ScriptFault.TheVariants as fault

-- Returns the number of the reader's failures that a result reports: 1 for `Read`, else 0.
abbrev pub failed_reads : {A : Type 0} → Result A ScriptFault → ℕ
failed_reads (Err fault.Read) = 1
failed_reads _ = 0

-- Returns the number of the writer's failures that a result reports: 1 for `Write`, else 0.
abbrev pub failed_writes : {A : Type 0} → Result A ScriptFault → ℕ
failed_writes (Err fault.Write) = 1
failed_writes _ = 0
