-- The reason why a program wasn't run is a fault of the whole.
use Rattle.std.proofs.Common.{ℕ, refl, ap}
use Rattle.std.specs.Prelude.{Result, Ok, Err}
use Rattle.jvms_machine.specs.Opening.{StartFault}
use Rattle.program_runs.specs.declared.machine.MachineFault.TheVariants as machine_fault
use Rattle.program_runs.specs.declared.fault.ProgramFault.{ProgramFault}
use Rattle.program_runs.specs.declared.fault.ProgramFault.TheVariants as program_fault
use Rattle.program_runs.specs.Faults.{IsProgramFault}
use Rattle.judge.specs.Faults.{IsFault, NamesFile, judge_fault_of}
use Rattle.judge.specs.Programs.{not_made, with_reason}

pub not_run : {A : Type 0} → (fault : ProgramFault) → (shown : Result A StartFault) → IsProgramFault fault shown → IsFault (judge_fault_of fault) (with_reason not_made shown)
not_run (program_fault.Machine machine_fault.NoEntry) shown is = ap (with_reason not_made) is
not_run (program_fault.Machine machine_fault.Limits) shown is = ap (with_reason not_made) is
not_run (program_fault.Machine machine_fault.Memory) (Ok shown) is = refl
not_run (program_fault.Machine machine_fault.Memory) (Err why) is = absurd (cc)
not_run program_fault.Memory shown is = tt

pub names_none : (files : ℕ) (fault : ProgramFault) → NamesFile files (judge_fault_of fault)
names_none files (program_fault.Machine fault) = tt
names_none files program_fault.Memory = tt
