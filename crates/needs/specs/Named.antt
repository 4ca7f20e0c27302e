-- Defines what an instruction names: a class, or a member of one.
use Rattle.std.specs.Prelude.{ℕ, List, Option, Some, None}
use Rattle.jvms_program.specs.declared.program.Instruction.{Instruction}
use Rattle.jvms_program.specs.declared.program.Instruction.TheVariants as instruction
use Rattle.jvms_program.specs.declared.program.Loadable.{Loadable}
use Rattle.jvms_program.specs.declared.program.Loadable.TheVariants as loadable

abbrev pub class_of_constant : Loadable → Option (List ℕ)
class_of_constant (loadable.Class name) = Some name
class_of_constant _ = None

-- Returns the class that is named.
abbrev pub class_named : Instruction → Option (List ℕ)
class_named (instruction.Field how r) = Some r.class
class_named (instruction.Invoke how r) = Some r.class
class_named (instruction.Class how name) = Some name
class_named (instruction.MultiNewArray count name) = Some name
class_named (instruction.Constant c) = class_of_constant c
class_named _ = None

-- Returns the name and the descriptor of the member that is named.
abbrev pub member_named : Instruction → Option (List ℕ × List ℕ)
member_named (instruction.Field how r) = Some (r.name, r.descriptor)
member_named (instruction.Invoke how r) = Some (r.name, r.descriptor)
member_named _ = None
