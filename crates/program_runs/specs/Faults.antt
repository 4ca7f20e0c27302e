-- The condition of a fault. Memory may run out only if nothing else is at fault.
use Rattle.std.specs.Prelude.{◌≡◌, IsTrue, is_ok, Result, Err}
use Rattle.jvms_machine.specs.Opening.{StartFault, no_entry, no_limits}
use Rattle.runs.specs.declared.machine.MachineFault.TheVariants as machine_fault
use Rattle.program_runs.specs.declared.fault.ProgramFault.{ProgramFault}
use Rattle.program_runs.specs.declared.fault.ProgramFault.TheVariants as program_fault

abbrev pub IsProgramFault : {A : Type 0} → ProgramFault → Result A StartFault → Type 0
IsProgramFault (program_fault.Machine machine_fault.NoEntry) shown = shown ≡ Err no_entry
IsProgramFault (program_fault.Machine machine_fault.Limits) shown = shown ≡ Err no_limits
IsProgramFault (program_fault.Machine machine_fault.Memory) shown = IsTrue (is_ok shown)
IsProgramFault program_fault.Memory shown = IsTrue (is_ok shown)
