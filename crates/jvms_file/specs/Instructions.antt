-- Instructions of a class file (JVMS 4.9.1, 4.10.1.9, 6.5): how one is read, and which operands it accepts. During
-- reading a target is a byte, counted from the method's first modulo 2^32. So a target before the method is not the
-- start of an instruction.
use Rattle.std.specs.Prelude.{ℕ, zero, suc, ◌+◌, ◌-◌, ◌%◌, ◌^◌, Bool, true, false, not, ◌==◌, ◌&&◌, ◌||◌, nat_lt, nat_le, if◌then◌else◌, List, [], ◌∷◌, Option, Some, None, slice_get, Result, Ok, Err, ℤ, int_lt, int_le, unsigned_abs, ◌-ℤ◌}
use Rattle.std.specs.Option.{option_and_then, option_map}
use Rattle.std.specs.Int.{w8, w16, w32, cast_unsigned}
use Rattle.jvms_file.specs.declared.insn.TheConstants.{OPCODES}
use Rattle.jvms_file.specs.declared.class_file.Constant.{Constant}
use Rattle.jvms_file.specs.declared.class_file.Constant.TheVariants as constant
use Rattle.jvms_file.specs.declared.fault.ClassFault.{ClassFault}
use Rattle.jvms_file.specs.declared.fault.ClassFault.TheVariants as fault
use Rattle.jvms_file.specs.declared.insn.Opcode.{Opcode}
use Rattle.jvms_file.specs.declared.insn.Opcode.TheVariants as opcode
use Rattle.jvms_file.specs.declared.insn.Insn.{Insn}
use Rattle.jvms_file.specs.declared.insn.Insn.TheVariants as insn
use Rattle.jvms_file.specs.declared.insn.Simple.TheVariants as simple
use Rattle.jvms_file.specs.declared.insn.Push.TheVariants as push
use Rattle.jvms_file.specs.declared.insn.Branch.{Branch}
use Rattle.jvms_file.specs.declared.insn.FieldUse.{FieldUse}
use Rattle.jvms_file.specs.declared.insn.Invoke.{Invoke}
use Rattle.jvms_file.specs.declared.insn.Invoke.TheVariants as invoke
use Rattle.jvms_file.specs.declared.insn.ClassUse.{ClassUse}
use Rattle.jvms_file.specs.declared.insn.ClassUse.TheVariants as class_use
use Rattle.jvms_file.specs.declared.insn.ArrayInsn.TheVariants as array_insn
use Rattle.jvms_file.specs.declared.insn.ArrayType.{ArrayType}
use Rattle.jvms_file.specs.declared.insn.ArrayType.TheVariants as array_type
use Rattle.jvms_file.specs.declared.insn.SwitchCase.{SwitchCase}
use Rattle.jvms_file.specs.Results.{◌>>=◌, want, present}
use Rattle.jvms_file.specs.Bytes.{u1_at, u2_at, u4_at, bytes_at, signed}
use Rattle.jvms_file.specs.Names.{is_constructor_name, begins_with}
use Rattle.jvms_file.specs.Descriptors.{method_type_of, parameter_units, is_array_name, dimensions_of}
use Rattle.jvms_file.specs.ConstantPool.{entry, class_name_at, name_and_type_at}

-- An instruction and the bytes after it, or the fault.
abbrev pub Read : Type 0
Read = Result (Insn × List ℕ) ClassFault

-- Returns the byte to which an offset leads, counted from the opcode's byte.
abbrev pub target_of : ℕ → ℤ → ℕ
target_of pc offset = (pc + cast_unsigned w32 offset) % 2 ^ 32

-- Returns the component type of a newarray code (JVMS table 6.5.newarray-A).
abbrev pub array_type_of : ℕ → Option ArrayType
array_type_of n =
    if n == 4 then Some array_type.Boolean
    else (if n == 5 then Some array_type.Char
    else (if n == 6 then Some array_type.Float
    else (if n == 7 then Some array_type.Double
    else (if n == 8 then Some array_type.Byte
    else (if n == 9 then Some array_type.Short
    else (if n == 10 then Some array_type.Int
    else (if n == 11 then Some array_type.Long
    else None)))))))

-- ---- The entries that a pool number may name.

-- Decides whether ldc loads an entry (JVMS 6.5 ldc): an int, a float or a string. From version 49 on also a class (JVMS
-- 4.9.1).
abbrev pub is_loadable : ℕ → Constant → Bool
is_loadable major (constant.Integer n) = true
is_loadable major (constant.Float n) = true
is_loadable major (constant.String n) = true
is_loadable major (constant.Class n) = nat_le 49 major
is_loadable major _ = false

-- Decides whether ldc2_w loads an entry (JVMS 6.5 ldc2_w): a long or a double.
abbrev pub is_wide_loadable : Constant → Bool
is_wide_loadable (constant.Long n) = true
is_wide_loadable (constant.Double n) = true
is_wide_loadable _ = false

abbrev pub passes : (Constant → Bool) → Option Constant → Bool
passes test None = false
passes test (Some c) = test c

abbrev pub is_field : Constant → Bool
is_field (constant.Field class name_and_type) = true
is_field _ = false

-- Returns the class, and the name and type, of a method's entry of the kind that the instruction accepts. That is an
-- interface's method for invokeinterface, and a class's for the others (JVMS 4.9.1).
abbrev pub method_numbers : Invoke → Constant → Option (ℕ × ℕ)
method_numbers invoke.Interface (constant.InterfaceMethod class name_and_type) = Some (class, name_and_type)
method_numbers invoke.Virtual (constant.Method class name_and_type) = Some (class, name_and_type)
method_numbers invoke.Special (constant.Method class name_and_type) = Some (class, name_and_type)
method_numbers invoke.Static (constant.Method class name_and_type) = Some (class, name_and_type)
method_numbers _ _ = None

-- Returns the name and the descriptor of the method that a call names.
abbrev pub invoked_names : List Constant → Invoke → ℕ → Option (List ℕ × List ℕ)
invoked_names pool how n =
    option_and_then
    (λ numbers. name_and_type_at pool numbers.1)
    (option_and_then (method_numbers how) (entry pool n))

-- Decides whether a call may name a method of this name. One that begins with an angle bracket is called only if it is
-- <init>, by invokespecial (JVMS 4.9.1).
abbrev pub is_invocable_name : Invoke → List ℕ → Bool
is_invocable_name invoke.Special name = not (begins_with 60 name) || is_constructor_name name
is_invocable_name _ name = not (begins_with 60 name)

abbrev pub is_invocable : Invoke → Option (List ℕ × List ℕ) → Bool
is_invocable how None = false
is_invocable how (Some (name, descriptor)) = is_invocable_name how name

-- Returns the units of the arguments of an interface's method, including the object.
abbrev pub interface_count : Option (List ℕ × List ℕ) → Option ℕ
interface_count None = None
interface_count (Some (name, descriptor)) = option_map (λ t. parameter_units t + 1) (method_type_of descriptor)

-- Decides whether the instruction accepts a class (JVMS 6.5 new, anewarray). For new that is no array. For anewarray it
-- has at most 254 dimensions.
abbrev pub is_usable_class : ClassUse → List ℕ → Bool
is_usable_class class_use.New name = not (is_array_name name)
is_usable_class class_use.NewArray name = nat_lt (dimensions_of name) 255
is_usable_class _ name = true

abbrev pub names_usable : ClassUse → Option (List ℕ) → Bool
names_usable how None = false
names_usable how (Some name) = is_usable_class how name

-- Decides whether multianewarray accepts a number of dimensions (JVMS 6.5 multianewarray): at least one, and at most
-- those of the class.
abbrev pub is_dimensions : ℕ → Option (List ℕ) → Bool
is_dimensions count None = false
is_dimensions count (Some name) = nat_lt 0 count && nat_le count (dimensions_of name)

-- ---- Operands. `cut` is the fault of an instruction that doesn't accept its operands.

abbrev pub constant_insn : ClassFault → Bool → ℕ → List ℕ → Read
constant_insn cut test n rest = do
  _ ← want test cut
  Ok (insn.Constant n, rest)

abbrev pub field_insn : ClassFault → List Constant → FieldUse → List ℕ → Read
field_insn cut pool how bytes = do
  n ← u2_at cut bytes
  _ ← want (passes is_field (entry pool n.0)) cut
  Ok (insn.Field how n.0, n.1)

abbrev pub class_insn : ClassFault → List Constant → ClassUse → List ℕ → Read
class_insn cut pool how bytes = do
  n ← u2_at cut bytes
  _ ← want (names_usable how (class_name_at pool n.0)) cut
  Ok (insn.Class how n.0, n.1)

abbrev pub multi_new_array_insn : ClassFault → List Constant → List ℕ → Read
multi_new_array_insn cut pool bytes = do
  n ← u2_at cut bytes
  count ← u1_at cut n.1
  _ ← want (is_dimensions count.0 (class_name_at pool n.0)) cut
  Ok (insn.MultiNewArray n.0 count.0, count.1)

-- Reads the end of an invokeinterface: the count of argument units, and a 0 (JVMS 6.5 invokeinterface).
abbrev pub interface_operands : ClassFault → Option ℕ → List ℕ → Result (List ℕ) ClassFault
interface_operands cut None bytes = Err cut
interface_operands cut (Some units) bytes = do
  count ← u1_at cut bytes
  last ← u1_at cut count.1
  _ ← want (count.0 == units && last.0 == 0) cut
  Ok last.1

abbrev pub after_invoke : ClassFault → Invoke → Option (List ℕ × List ℕ) → List ℕ → Result (List ℕ) ClassFault
after_invoke cut invoke.Interface method bytes = interface_operands cut (interface_count method) bytes
after_invoke cut _ method bytes = Ok bytes

abbrev pub invoke_insn : ClassFault → List Constant → Invoke → List ℕ → Read
invoke_insn cut pool how bytes = do
  n ← u2_at cut bytes
  _ ← want (is_invocable how (invoked_names pool how n.0)) cut
  rest ← after_invoke cut how (invoked_names pool how n.0) n.1
  Ok (insn.Invoke how n.0, rest)

-- Returns the number of pads, 0 to 3. The next byte after them is at a multiple of 4 (JVMS 6.5 tableswitch).
abbrev pub pad_length : ℕ → ℕ
pad_length pc = 3 - pc % 4

-- Reads as many targets as the count says, of four bytes each.
unfoldable pub targets_at : ClassFault → ℕ → ℕ → List ℕ → Result (List ℕ × List ℕ) ClassFault
targets_at cut pc zero bytes = Ok ([], bytes)
targets_at cut pc (suc left) bytes = do
  offset ← u4_at cut bytes
  others ← targets_at cut pc left offset.1
  Ok (target_of pc (signed w32 offset.0) ∷ others.0, others.1)

-- Reads the operands of tableswitch (JVMS 6.5 tableswitch): low is at most high, and each value from low to high has a
-- target.
unfoldable pub table_switch_insn : ClassFault → ℕ → List ℕ → Read
table_switch_insn cut pc bytes = do
  pads ← bytes_at cut (pad_length pc) bytes
  default ← u4_at cut pads.1
  low ← u4_at cut default.1
  high ← u4_at cut low.1
  _ ← want (int_le (signed w32 low.0) (signed w32 high.0)) cut
  targets ← targets_at cut pc (unsigned_abs (signed w32 high.0 -ℤ signed w32 low.0) + 1) high.1
  Ok (insn.Table (record { default = target_of pc (signed w32 default.0); low = signed w32 low.0; targets = targets.0 }), targets.1)

-- Decides whether a value is above the one before it, if there is one.
abbrev pub is_above : Option ℤ → ℤ → Bool
is_above None n = true
is_above (Some m) n = int_lt m n

-- Reads as many pairs of a value and an offset as the count says, in strictly rising order of the values.
unfoldable pub cases_at : ClassFault → ℕ → ℕ → Option ℤ → List ℕ → Result (List SwitchCase × List ℕ) ClassFault
cases_at cut pc zero last bytes = Ok ([], bytes)
cases_at cut pc (suc left) last bytes = do
  value ← u4_at cut bytes
  offset ← u4_at cut value.1
  _ ← want (is_above last (signed w32 value.0)) cut
  others ← cases_at cut pc left (Some (signed w32 value.0)) offset.1
  Ok (record { value = signed w32 value.0; target = target_of pc (signed w32 offset.0) } ∷ others.0, others.1)

-- Reads the operands of lookupswitch (JVMS 6.5 lookupswitch). The number of pairs isn't negative.
unfoldable pub lookup_switch_insn : ClassFault → ℕ → List ℕ → Read
lookup_switch_insn cut pc bytes = do
  pads ← bytes_at cut (pad_length pc) bytes
  default ← u4_at cut pads.1
  count ← u4_at cut default.1
  _ ← want (nat_lt count.0 (2 ^ 31)) cut
  cases ← cases_at cut pc count.0 None count.1
  Ok (insn.Lookup (record { default = target_of pc (signed w32 default.0); cases = cases.0 }), cases.1)

-- Reads the instruction after `wide` (JVMS 6.5 wide): a load, a store or ret with a local's number of two bytes, or
-- iinc with two bytes for each number.
abbrev pub wide_form : ClassFault → Option Opcode → List ℕ → Read
wide_form cut (Some (opcode.Local how)) bytes = do
  n ← u2_at cut bytes
  Ok (insn.Simple (simple.Local how n.0), n.1)
wide_form cut (Some opcode.Increment) bytes = do
  n ← u2_at cut bytes
  by ← u2_at cut n.1
  Ok (insn.Simple (simple.Increment n.0 (signed w16 by.0)), by.1)
wide_form cut _ bytes = Err cut

unfoldable pub wide_insn : ClassFault → List ℕ → Read
wide_insn cut bytes = do
  code ← u1_at cut bytes
  wide_form cut (slice_get OPCODES code.0) code.1

abbrev pub branch_insn : ClassFault → ℕ → Branch → List ℕ → Read
branch_insn cut pc how bytes = do
  offset ← u2_at cut bytes
  Ok (insn.Branch how (target_of pc (signed w16 offset.0)), offset.1)

abbrev pub wide_branch_insn : ClassFault → ℕ → Branch → List ℕ → Read
wide_branch_insn cut pc how bytes = do
  offset ← u4_at cut bytes
  Ok (insn.Branch how (target_of pc (signed w32 offset.0)), offset.1)

abbrev pub new_array_insn : ClassFault → List ℕ → Read
new_array_insn cut bytes = do
  code ← u1_at cut bytes
  type ← present (array_type_of code.0) cut
  Ok (insn.Simple (simple.Array (array_insn.New type)), code.1)

-- Reads the operands after an opcode.
unfoldable pub operands_at : List Constant → ℕ → ℕ → Opcode → List ℕ → Read
operands_at pool major pc (opcode.Alone s) bytes = Ok (insn.Simple s, bytes)
operands_at pool major pc opcode.PushByte bytes = do
  n ← u1_at (fault.Operand pc) bytes
  Ok (insn.Simple (simple.Push (push.Int (signed w8 n.0))), n.1)
operands_at pool major pc opcode.PushShort bytes = do
  n ← u2_at (fault.Operand pc) bytes
  Ok (insn.Simple (simple.Push (push.Int (signed w16 n.0))), n.1)
operands_at pool major pc opcode.Constant bytes = do
  n ← u1_at (fault.Operand pc) bytes
  constant_insn (fault.Operand pc) (passes (is_loadable major) (entry pool n.0)) n.0 n.1
operands_at pool major pc opcode.ConstantWide bytes = do
  n ← u2_at (fault.Operand pc) bytes
  constant_insn (fault.Operand pc) (passes (is_loadable major) (entry pool n.0)) n.0 n.1
operands_at pool major pc opcode.ConstantLong bytes = do
  n ← u2_at (fault.Operand pc) bytes
  constant_insn (fault.Operand pc) (passes is_wide_loadable (entry pool n.0)) n.0 n.1
operands_at pool major pc (opcode.Local how) bytes = do
  n ← u1_at (fault.Operand pc) bytes
  Ok (insn.Simple (simple.Local how n.0), n.1)
operands_at pool major pc opcode.Increment bytes = do
  n ← u1_at (fault.Operand pc) bytes
  by ← u1_at (fault.Operand pc) n.1
  Ok (insn.Simple (simple.Increment n.0 (signed w8 by.0)), by.1)
operands_at pool major pc (opcode.Branch how) bytes = branch_insn (fault.Operand pc) pc how bytes
operands_at pool major pc (opcode.BranchWide how) bytes = wide_branch_insn (fault.Operand pc) pc how bytes
operands_at pool major pc opcode.TableSwitch bytes = table_switch_insn (fault.Operand pc) pc bytes
operands_at pool major pc opcode.LookupSwitch bytes = lookup_switch_insn (fault.Operand pc) pc bytes
operands_at pool major pc (opcode.Field how) bytes = field_insn (fault.Operand pc) pool how bytes
operands_at pool major pc (opcode.Invoke how) bytes = invoke_insn (fault.Operand pc) pool how bytes
operands_at pool major pc (opcode.Class how) bytes = class_insn (fault.Operand pc) pool how bytes
operands_at pool major pc opcode.NewArray bytes = new_array_insn (fault.Operand pc) bytes
operands_at pool major pc opcode.Wide bytes = wide_insn (fault.Operand pc) bytes
operands_at pool major pc opcode.MultiNewArray bytes = multi_new_array_insn (fault.Operand pc) pool bytes
operands_at pool major pc opcode.Reserved bytes = Err (fault.Opcode pc)

-- Reads the instruction at byte pc of a method, from the bytes from there on. A byte that is no opcode is a fault of
-- its own. All other faults are those of the operands.
unfoldable pub insn_at : List Constant → ℕ → ℕ → List ℕ → Read
insn_at pool major pc bytes = do
  code ← u1_at (fault.Operand pc) bytes
  form ← present (slice_get OPCODES code.0) (fault.Opcode pc)
  operands_at pool major pc form code.1
