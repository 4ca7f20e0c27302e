-- Defines the bytes of instructions (JVMS 6.5). `wide` is added if a local variable's number or an increment needs it.
-- ldc becomes ldc_w if its entry's index needs two bytes. No branch is lengthened.
use Rattle.std.specs.Prelude.{ℕ, ◌+◌, ◌-◌, ◌%◌, nat_le, if◌then◌else◌, List, [], ◌∷◌, ◌++◌, length, replicate, Option, Some, None, ℤ, pos, ◌+ℤ◌}
use Rattle.std.specs.Option.{unwrap_or}
use Rattle.std.specs.List.{flat_map}
use Rattle.std.specs.Int.{w8, w16, w32, cast_unsigned}
use Rattle.jvms_file.specs.declared.insn.Invoke.{Invoke}
use Rattle.jvms_file.specs.declared.insn.Invoke.TheVariants as invoke
use Rattle.jvms_file.specs.Instructions.{pad_length, interface_count}
use Rattle.jvms_file.specs.Spelling.{u2, u4}
use Rattle.jasmin.specs.declared.source.ConstantWidth.{ConstantWidth}
use Rattle.jasmin.specs.declared.source.ConstantWidth.TheVariants as constant_width
use Rattle.jasmin.specs.declared.source.BranchWidth.TheVariants as branch_width
use Rattle.jasmin.specs.declared.source.MatchLine.{MatchLine}
use Rattle.jasmin.specs.declared.source.TableLines.{TableLines}
use Rattle.jasmin.specs.declared.source.LookupLines.{LookupLines}
use Rattle.jasmin.specs.declared.source.Operation.{Operation}
use Rattle.jasmin.specs.declared.source.Operation.TheVariants as operation
use Rattle.jasmin.specs.declared.source.CodeItem.{CodeItem}
use Rattle.assembly.specs.Sizes.{is_byte_step, offset}
use Rattle.assembly.specs.Opcodes.{local_opcode, branch_opcode, wide_branch_opcode, field_opcode, invoke_opcode, class_opcode, array_type_number}

-- ---- Numbers in two's complement

abbrev pub s1 : ℤ → List ℕ
s1 n = cast_unsigned w8 n ∷ []

abbrev pub s2 : ℤ → List ℕ
s2 n = u2 (cast_unsigned w16 n)

abbrev pub s4 : ℤ → List ℕ
s4 n = u4 (cast_unsigned w32 n)

-- ---- Instructions

-- Returns the bytes of ldc with an index of one byte, or of ldc_w.
abbrev pub constant_bytes : ConstantWidth → ℕ → List ℕ
constant_bytes constant_width.AsNeeded n = if nat_le n 255 then 18 ∷ n ∷ [] else 19 ∷ u2 n
constant_bytes constant_width.Wide n = 19 ∷ u2 n

-- Returns the bytes of a load, store or ret: a number of one byte, or of two bytes after wide.
abbrev pub local_bytes : ℕ → ℕ → List ℕ
local_bytes code n = if nat_le n 255 then code ∷ n ∷ [] else 196 ∷ code ∷ u2 n

-- Returns the bytes of iinc.
abbrev pub increment_bytes : ℕ → ℤ → List ℕ
increment_bytes n by = if is_byte_step n by then 132 ∷ n ∷ s1 by else 196 ∷ 132 ∷ u2 n ++ s2 by

-- Returns the padding of a switch, which is zeros.
abbrev pub pads : ℕ → List ℕ
pads pc = replicate (pad_length pc) 0

-- Returns the bytes of a tableswitch: the default, low and high, and an offset for each value from low to high.
unfoldable pub table_bytes : List ℕ → List CodeItem → ℕ → TableLines → List ℕ
table_bytes starts items pc lines =
    170 ∷ pads pc ++ (s4 (offset starts items pc lines.default) ++ (s4 lines.low
    ++ (s4 (lines.low +ℤ pos (length lines.labels - 1)) ++ flat_map (λ label. s4 (offset starts items pc label)) lines.labels)))

-- Returns the bytes of a lookupswitch: the default, the number of pairs, and the pairs.
unfoldable pub lookup_bytes : List ℕ → List CodeItem → ℕ → LookupLines → List ℕ
lookup_bytes starts items pc lines =
    171 ∷ pads pc ++ (s4 (offset starts items pc lines.default) ++ (u4 (length lines.matches)
    ++ flat_map (λ (m : MatchLine). s4 m.value ++ s4 (offset starts items pc m.label)) lines.matches))

-- Returns the bytes after the index of an invokeinterface: the number of units of its arguments with the object, modulo
-- 256, and a 0 (JVMS 6.5). Other invoke instructions have none.
abbrev pub after_invoke : Invoke → List ℕ → List ℕ
after_invoke invoke.Interface descriptor = (unwrap_or (interface_count (Some ([], descriptor))) 0 % 256) ∷ 0 ∷ []
after_invoke _ descriptor = []

-- Returns the bytes of an instruction that starts at byte `pc` and names the pool entry `n`. `starts` are the bytes at
-- which the code's instructions start.
unfoldable pub operation_bytes : List ℕ → List CodeItem → ℕ → ℕ → Operation → List ℕ
operation_bytes starts items n pc (operation.Alone code) = code ∷ []
operation_bytes starts items n pc (operation.PushByte k) = 16 ∷ s1 k
operation_bytes starts items n pc (operation.PushShort k) = 17 ∷ s2 k
operation_bytes starts items n pc (operation.Constant width c) = constant_bytes width n
operation_bytes starts items n pc (operation.ConstantLong k) = 20 ∷ u2 n
operation_bytes starts items n pc (operation.Local how k) = local_bytes (local_opcode how) k
operation_bytes starts items n pc (operation.Increment k by) = increment_bytes k by
operation_bytes starts items n pc (operation.Branch branch_width.Short how label) = branch_opcode how ∷ s2 (offset starts items pc label)
operation_bytes starts items n pc (operation.Branch branch_width.Wide how label) = wide_branch_opcode how ∷ s4 (offset starts items pc label)
operation_bytes starts items n pc (operation.Table lines) = table_bytes starts items pc lines
operation_bytes starts items n pc (operation.Lookup lines) = lookup_bytes starts items pc lines
operation_bytes starts items n pc (operation.Field how f) = field_opcode how ∷ u2 n
operation_bytes starts items n pc (operation.Invoke how m) = invoke_opcode how ∷ u2 n ++ after_invoke how m.descriptor
operation_bytes starts items n pc (operation.Class how name) = class_opcode how ∷ u2 n
operation_bytes starts items n pc (operation.NewArray type) = 188 ∷ array_type_number type ∷ []
operation_bytes starts items n pc (operation.MultiNewArray name count) = 197 ∷ u2 n ++ count ∷ []

-- Returns the bytes of instructions that start at bytes `pcs` and name these pool entries.
unfoldable pub bytes_from : List ℕ → List CodeItem → List ℕ → List ℕ → List Operation → List ℕ
bytes_from starts items (n ∷ numbers) (pc ∷ pcs) (o ∷ os) =
    operation_bytes starts items n pc o ++ bytes_from starts items numbers pcs os
bytes_from starts items _ _ _ = []
