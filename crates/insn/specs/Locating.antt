-- Instructions with the bytes at which they start, seen as those of the definitions (own).
use Rattle.std.specs.Prelude.{ℕ, List, map, Result}
use Rattle.jvms_file.specs.declared.fault.ClassFault.{ClassFault}
use Rattle.jvms_file.specs.declared.fault.ClassFault.TheVariants as fault
use Rattle.jvms_file.specs.declared.insn.Insn.{Insn}
use Rattle.jvms_file.specs.Results.{present}
use Rattle.jvms_file.specs.Code.{InsnAtByte, with_places}
use Rattle.insn.specs.declared.located.InsnAt.{InsnAt}

abbrev pub placed_of : InsnAt → InsnAtByte
placed_of l = record { pc = l.pc; insn = l.insn }

abbrev pub all_placed : List InsnAt → List InsnAtByte
all_placed ls = map placed_of ls

-- Returns one instruction with places for targets, or the fault of its targets.
abbrev pub resolved_one : List ℕ → InsnAtByte → Result Insn ClassFault
resolved_one pcs i = present (with_places pcs i.insn) (fault.Target i.pc)
