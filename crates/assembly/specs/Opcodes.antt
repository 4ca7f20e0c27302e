-- Defines the opcodes of instructions with operands (JVMS 7).
use Rattle.std.specs.Prelude.{ℕ, ◌+◌}
use Rattle.jvms_file.specs.declared.insn.Kind.{Kind}
use Rattle.jvms_file.specs.declared.insn.Kind.TheVariants as kind
use Rattle.jvms_file.specs.declared.insn.LocalUse.{LocalUse}
use Rattle.jvms_file.specs.declared.insn.LocalUse.TheVariants as local
use Rattle.jvms_file.specs.declared.insn.Comparison.{Comparison}
use Rattle.jvms_file.specs.declared.insn.Comparison.TheVariants as comparison
use Rattle.jvms_file.specs.declared.insn.Branch.{Branch}
use Rattle.jvms_file.specs.declared.insn.Branch.TheVariants as branch
use Rattle.jvms_file.specs.declared.insn.FieldUse.{FieldUse}
use Rattle.jvms_file.specs.declared.insn.FieldUse.TheVariants as field_use
use Rattle.jvms_file.specs.declared.insn.Invoke.{Invoke}
use Rattle.jvms_file.specs.declared.insn.Invoke.TheVariants as invoke
use Rattle.jvms_file.specs.declared.insn.ClassUse.{ClassUse}
use Rattle.jvms_file.specs.declared.insn.ClassUse.TheVariants as class_use
use Rattle.jvms_file.specs.declared.insn.ArrayType.{ArrayType}
use Rattle.jvms_file.specs.declared.insn.ArrayType.TheVariants as array_type

-- Returns the position of a kind among the opcodes of loads, and among those of stores.
abbrev pub kind_number : Kind → ℕ
kind_number kind.Int = 0
kind_number kind.Long = 1
kind_number kind.Float = 2
kind_number kind.Double = 3
kind_number kind.Reference = 4

-- Returns the opcode of iload to aload, of istore to astore, or of ret.
abbrev pub local_opcode : LocalUse → ℕ
local_opcode (local.Load k) = 21 + kind_number k
local_opcode (local.Store k) = 54 + kind_number k
local_opcode local.Return = 169

abbrev pub comparison_number : Comparison → ℕ
comparison_number comparison.Equal = 0
comparison_number comparison.NotEqual = 1
comparison_number comparison.Less = 2
comparison_number comparison.GreaterOrEqual = 3
comparison_number comparison.Greater = 4
comparison_number comparison.LessOrEqual = 5

-- Returns the opcode of a branch with an offset of two bytes.
abbrev pub branch_opcode : Branch → ℕ
branch_opcode (branch.IfZero c) = 153 + comparison_number c
branch_opcode (branch.IfInts c) = 159 + comparison_number c
branch_opcode branch.IfSame = 165
branch_opcode branch.IfDifferent = 166
branch_opcode branch.Goto = 167
branch_opcode branch.Subroutine = 168
branch_opcode branch.IfNull = 198
branch_opcode branch.IfNonNull = 199

-- Returns the opcode of a branch with an offset of four bytes: goto_w or jsr_w. The value for any other branch isn't
-- used.
abbrev pub wide_branch_opcode : Branch → ℕ
wide_branch_opcode branch.Goto = 200
wide_branch_opcode _ = 201

abbrev pub field_opcode : FieldUse → ℕ
field_opcode field_use.GetStatic = 178
field_opcode field_use.PutStatic = 179
field_opcode field_use.Get = 180
field_opcode field_use.Put = 181

abbrev pub invoke_opcode : Invoke → ℕ
invoke_opcode invoke.Virtual = 182
invoke_opcode invoke.Special = 183
invoke_opcode invoke.Static = 184
invoke_opcode invoke.Interface = 185

abbrev pub class_opcode : ClassUse → ℕ
class_opcode class_use.New = 187
class_opcode class_use.NewArray = 189
class_opcode class_use.CheckCast = 192
class_opcode class_use.InstanceOf = 193

-- Returns the number of a component type (JVMS table 6.5.newarray-A).
abbrev pub array_type_number : ArrayType → ℕ
array_type_number array_type.Boolean = 4
array_type_number array_type.Char = 5
array_type_number array_type.Float = 6
array_type_number array_type.Double = 7
array_type_number array_type.Byte = 8
array_type_number array_type.Short = 9
array_type_number array_type.Int = 10
array_type_number array_type.Long = 11
