-- Defines the instructions outside of the profile: those of floats and doubles, and `new` of classes that `new` can't
-- instantiate.
use Rattle.std.specs.Prelude.{Bool, true, false, not}
use Rattle.jvms_file.specs.declared.insn.LocalUse.{LocalUse}
use Rattle.jvms_file.specs.declared.insn.LocalUse.TheVariants as local_use
use Rattle.jvms_file.specs.declared.insn.Push.{Push}
use Rattle.jvms_file.specs.declared.insn.Push.TheVariants as push
use Rattle.jvms_file.specs.declared.insn.ReturnInsn.{ReturnInsn}
use Rattle.jvms_file.specs.declared.insn.ReturnInsn.TheVariants as returns
use Rattle.jvms_file.specs.declared.insn.Simple.{Simple}
use Rattle.jvms_file.specs.declared.insn.Simple.TheVariants as simple
use Rattle.jvms_program.specs.declared.program.Instruction.{Instruction}
use Rattle.jvms_program.specs.declared.program.Instruction.TheVariants as instruction
use Rattle.jvms_program.specs.declared.program.Loadable.{Loadable}
use Rattle.jvms_program.specs.declared.program.Loadable.TheVariants as loadable
use Rattle.jvms_machine.specs.Locals.{is_profile_kind}
use Rattle.jvms_machine.specs.Profile.{is_outside_element, is_outside_method, is_outside_class, is_outside_array, is_outside_use}

abbrev pub is_outside_push : Push → Bool
is_outside_push (push.Float n) = true
is_outside_push (push.Double n) = true
is_outside_push _ = false

abbrev pub is_outside_local : LocalUse → Bool
is_outside_local (local_use.Load k) = not (is_profile_kind k)
is_outside_local (local_use.Store k) = not (is_profile_kind k)
is_outside_local local_use.Return = false

abbrev pub is_outside_return : ReturnInsn → Bool
is_outside_return returns.Void = false
is_outside_return (returns.Value k) = not (is_profile_kind k)

-- Decides it for an instruction that names neither a class nor a member.
abbrev pub is_outside_simple : Simple → Bool
is_outside_simple (simple.Push p) = is_outside_push p
is_outside_simple (simple.Local how n) = is_outside_local how
is_outside_simple (simple.Floating i) = true
is_outside_simple (simple.Array i) = is_outside_array i
is_outside_simple (simple.Return how) = is_outside_return how
is_outside_simple _ = false

abbrev pub is_outside_constant : Loadable → Bool
is_outside_constant (loadable.Float n) = true
is_outside_constant (loadable.Double n) = true
is_outside_constant _ = false

-- Decides whether a turn stops at an instruction with OutOfProfile, whatever its operands are.
abbrev pub is_outside : Instruction → Bool
is_outside (instruction.Simple s) = is_outside_simple s
is_outside (instruction.Constant c) = is_outside_constant c
is_outside (instruction.Field how r) = is_outside_element r.field_type.element
is_outside (instruction.Invoke how r) = is_outside_method r.method_type
is_outside (instruction.Class how name) = is_outside_use how name
is_outside (instruction.MultiNewArray count name) = is_outside_class name
is_outside _ = false
