-- Defines when a fault is right: it is the reason why nothing was run, unless memory ran out.
use Rattle.std.specs.Prelude.{◌≡◌, ◌<◌, ℕ, IsTrue, is_ok, List, Result, Err}
use Rattle.jvms_file.specs.declared.class_file.ClassFile.{ClassFile}
use Rattle.jvms_machine.specs.Opening.{no_entry, no_limits}
use Rattle.inputs.specs.declared.fault.InputFault.{InputFault}
use Rattle.inputs.specs.Inputs as inputs
use Rattle.linker.specs.declared.fault.LinkFault.{LinkFault}
use Rattle.linker.specs.declared.fault.LinkFault.TheVariants as link_fault
use Rattle.program_runs.specs.declared.machine.MachineFault.{MachineFault}
use Rattle.program_runs.specs.declared.machine.MachineFault.TheVariants as machine_fault
use Rattle.program_runs.specs.declared.fault.ProgramFault.{ProgramFault}
use Rattle.program_runs.specs.declared.fault.ProgramFault.TheVariants as program_fault
use Rattle.judge.specs.declared.fault.JudgeFault.{JudgeFault}
use Rattle.judge.specs.declared.fault.JudgeFault.TheVariants as judge_fault
use Rattle.judge.specs.Programs.{NotRun, no_class, not_linked, not_made}

-- Returns the fault of the whole for the reason why a program wasn't run.
abbrev pub judge_fault_of : ProgramFault → JudgeFault
judge_fault_of (program_fault.Machine fault) = judge_fault.Machine fault
judge_fault_of program_fault.Memory = judge_fault.Memory

-- A fault of an input names one of this number of inputs.
abbrev pub NamesFile : ℕ → JudgeFault → Type 0
NamesFile files (judge_fault.Input file fault) = file < files
NamesFile files (judge_fault.Link fault) = Unit {0}
NamesFile files (judge_fault.Machine fault) = Unit {0}
NamesFile files judge_fault.Memory = Unit {0}

-- The fault is the reason why an input is no class.
abbrev pub IsFileFault : {A : Type 0} → ℕ → InputFault → Result A NotRun → Type 0
IsFileFault file fault said = inputs.IsFault (no_class file) fault said

-- The fault is the reason why there are no classes.
abbrev pub IsClassesFault : JudgeFault → Result (List ClassFile) NotRun → Type 0
IsClassesFault (judge_fault.Input file fault) said = IsFileFault file fault said
IsClassesFault (judge_fault.Link fault) said = ⊥
IsClassesFault (judge_fault.Machine fault) said = ⊥
IsClassesFault judge_fault.Memory said = Unit {0}

abbrev pub IsLinkFault : {A : Type 0} → LinkFault → Result A NotRun → Type 0
IsLinkFault link_fault.Memory said = Unit {0}
IsLinkFault fault said = said ≡ Err (not_linked fault)

abbrev pub IsMachineFault : {A : Type 0} → MachineFault → Result A NotRun → Type 0
IsMachineFault machine_fault.Memory said = IsTrue (is_ok said)
IsMachineFault machine_fault.NoEntry said = said ≡ Err (not_made no_entry)
IsMachineFault machine_fault.Limits said = said ≡ Err (not_made no_limits)

-- The fault is the reason why inputs make no program. No machine is made.
abbrev pub IsNoProgram : {A : Type 0} → JudgeFault → Result A NotRun → Type 0
IsNoProgram (judge_fault.Input file fault) said = IsFileFault file fault said
IsNoProgram (judge_fault.Link fault) said = IsLinkFault fault said
IsNoProgram (judge_fault.Machine fault) said = ⊥
IsNoProgram judge_fault.Memory said = Unit {0}

-- The fault is the reason of the definition, unless memory ran out.
abbrev pub IsFault : {A : Type 0} → JudgeFault → Result A NotRun → Type 0
IsFault (judge_fault.Input file fault) said = IsFileFault file fault said
IsFault (judge_fault.Link fault) said = IsLinkFault fault said
IsFault (judge_fault.Machine fault) said = IsMachineFault fault said
IsFault judge_fault.Memory said = Unit {0}
