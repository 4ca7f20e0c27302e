-- Defines the sizes of instructions in bytes (JVMS 6.5), and where they start.
use Rattle.std.specs.Prelude.{ℕ, ◌+◌, ◌-◌, ◌*◌, ◌^◌, Bool, false, not, ◌&&◌, ◌||◌, nat_le, if◌then◌else◌, List, [], ◌∷◌, length, slice_get, ℤ, pos, neg_ℤ, int_le, ◌-ℤ◌}
use Rattle.std.specs.Option.{unwrap_or}
use Rattle.jvms_file.specs.declared.insn.Invoke.{Invoke}
use Rattle.jvms_file.specs.declared.insn.Invoke.TheVariants as invoke
use Rattle.jvms_file.specs.Instructions.{pad_length}
use Rattle.jasmin.specs.declared.source.ConstantWidth.TheVariants as constant_width
use Rattle.jasmin.specs.declared.source.BranchWidth.TheVariants as branch_width
use Rattle.jasmin.specs.declared.source.Operation.{Operation}
use Rattle.jasmin.specs.declared.source.Operation.TheVariants as operation
use Rattle.jasmin.specs.declared.source.CodeItem.{CodeItem}
use Rattle.jasmin.specs.Denote.{target, operations}

-- ---- Sizes

-- Decides whether a number is within the bounds.
abbrev pub is_between : ℤ → ℤ → ℤ → Bool
is_between least most n = int_le least n && int_le n most

-- Decides whether a local variable's number fits one unsigned byte and an increment one signed byte.
abbrev pub is_byte_step : ℕ → ℤ → Bool
is_byte_step n by = nat_le n 255 && is_between (neg_ℤ (pos 128)) (pos 127) by

abbrev pub invoke_size : Invoke → ℕ
invoke_size invoke.Interface = 5
invoke_size _ = 3

-- Returns the size of an instruction that starts at byte `pc` and names the pool entry `n`.
unfoldable pub size : ℕ → ℕ → Operation → ℕ
size n pc (operation.Alone code) = 1
size n pc (operation.PushByte k) = 2
size n pc (operation.PushShort k) = 3
size n pc (operation.Constant constant_width.AsNeeded c) = if nat_le n 255 then 2 else 3
size n pc (operation.Constant constant_width.Wide c) = 3
size n pc (operation.ConstantLong k) = 3
size n pc (operation.Local how k) = if nat_le k 255 then 2 else 4
size n pc (operation.Increment k by) = if is_byte_step k by then 3 else 6
size n pc (operation.Branch branch_width.Short how label) = 3
size n pc (operation.Branch branch_width.Wide how label) = 5
size n pc (operation.Table lines) = 1 + pad_length pc + 12 + 4 * length lines.labels
size n pc (operation.Lookup lines) = 1 + pad_length pc + 8 + 8 * length lines.matches
size n pc (operation.Field how f) = 3
size n pc (operation.Invoke how m) = invoke_size how
size n pc (operation.Class how name) = 3
size n pc (operation.NewArray type) = 2
size n pc (operation.MultiNewArray name count) = 4

-- Returns the byte after instructions that start at byte `pc` and name the pool entries `numbers`.
unfoldable pub end_from : ℕ → List ℕ → List Operation → ℕ
end_from pc (n ∷ numbers) (o ∷ os) = end_from (pc + size n pc o) numbers os
end_from pc _ _ = pc

-- Returns the bytes at which instructions start.
unfoldable pub starts_from : ℕ → List ℕ → List Operation → List ℕ
starts_from pc (n ∷ numbers) (o ∷ os) = pc ∷ starts_from (pc + size n pc o) numbers os
starts_from pc _ _ = []

abbrev pub code_length : List ℕ → List CodeItem → ℕ
code_length numbers items = end_from 0 numbers (operations items)

abbrev pub starts_of : List ℕ → List CodeItem → List ℕ
starts_of numbers items = starts_from 0 numbers (operations items)

-- ---- Offsets

-- Returns the byte of a label in code whose instructions start at these bytes, or 0 for a label that marks no
-- instruction. Assembled code refers to no such label.
abbrev pub label_byte : List ℕ → List CodeItem → List ℕ → ℕ
label_byte starts items label = unwrap_or (slice_get starts (target items label)) 0

-- Returns the offset of a label from byte `pc`.
abbrev pub offset : List ℕ → List CodeItem → ℕ → List ℕ → ℤ
offset starts items pc label = pos (label_byte starts items label) -ℤ pos pc

-- Decides whether a branch at byte `pc` can't reach its label with an offset of two bytes.
unfoldable pub is_too_far : List ℕ → List CodeItem → ℕ → Operation → Bool
is_too_far starts items pc (operation.Branch branch_width.Short how label) =
    not (is_between (neg_ℤ (pos (2 ^ 15))) (pos (2 ^ 15 - 1)) (offset starts items pc label))
is_too_far starts items pc _ = false

-- Decides whether an instruction among those that start at bytes `pcs` can't reach its label.
unfoldable pub any_too_far : List ℕ → List CodeItem → List ℕ → List Operation → Bool
any_too_far starts items (pc ∷ pcs) (o ∷ os) = is_too_far starts items pc o || any_too_far starts items pcs os
any_too_far starts items _ _ = false
