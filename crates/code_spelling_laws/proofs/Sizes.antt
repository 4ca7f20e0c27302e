-- Proves that an instruction has as many bytes as its size, and at least one.
use Rattle.std.proofs.Common.{◌≡◌, ℕ, suc, ◌+◌, ◌-◌, ◌*◌, ◌<◌, Bool, true, false, cond, List, [], ◌∷◌, ◌++◌, length, refl, ap, ℤ, arith, length-append}
use Rattle.std.specs.Prelude.{nat_le, pos, ◌+ℤ◌}
use Rattle.std.specs.List.{flat_map}
use Rattle.std.specs.Int.{w16, w32, cast_unsigned}
use Rattle.std.proofs.lemmas.List.{length-replicate}
use Rattle.jvms_file.specs.declared.insn.Invoke.{Invoke}
use Rattle.jvms_file.specs.declared.insn.Invoke.TheVariants as invoke
use Rattle.jvms_file.specs.Instructions.{pad_length}
use Rattle.jvms_file.specs.Spelling.{u2, u4}
use Rattle.jasmin.specs.declared.source.ConstantWidth.TheVariants as constant_width
use Rattle.jasmin.specs.declared.source.BranchWidth.TheVariants as branch_width
use Rattle.jasmin.specs.declared.source.MatchLine.{MatchLine}
use Rattle.jasmin.specs.declared.source.TableLines.{TableLines}
use Rattle.jasmin.specs.declared.source.LookupLines.{LookupLines}
use Rattle.jasmin.specs.declared.source.Operation.{Operation}
use Rattle.jasmin.specs.declared.source.Operation.TheVariants as operation
use Rattle.jasmin.specs.declared.source.CodeItem.{CodeItem}
use Rattle.assembly.specs.Sizes.{is_byte_step, invoke_size, size, offset}
use Rattle.assembly.specs.Opcodes.{local_opcode, invoke_opcode}
use Rattle.assembly.specs.Bytes.{s1, s2, s4, pads, table_bytes, lookup_bytes, after_invoke, operation_bytes}
use Rattle.classfile_laws.proofs.Numbers.{length-u2, length-u4}

-- ---- One form or another

constant_size : (n : ℕ) (few : Bool) → length (cond few (18 ∷ n ∷ []) (19 ∷ u2 n)) ≡ cond few 2 3
constant_size n true = refl
constant_size n false = ap suc (length-u2 n)

local_size : (code n : ℕ) (few : Bool) → length (cond few (code ∷ n ∷ []) (196 ∷ code ∷ u2 n)) ≡ cond few 2 4
local_size code n true = refl
local_size code n false = ap (λ (k : ℕ). suc (suc k)) (length-u2 n)

increment_size : (n : ℕ) (by : ℤ) (few : Bool) → length (cond few (132 ∷ n ∷ s1 by) (196 ∷ 132 ∷ u2 n ++ s2 by)) ≡ cond few 3 6
increment_size n by true = refl
increment_size n by false = omega (arith, length-append (u2 n) (s2 by), length-u2 n, length-u2 (cast_unsigned w16 by))

-- ---- Switches

-- Pieces of equal length have this length times their number.
pieces : {A : Type 0} (f : A → List ℕ) (k : ℕ) → ((x : A) → length (f x) ≡ k) → (xs : List A) → length (flat_map f xs) ≡ k * length xs
pieces f k each [] = omega arith
pieces f k each (x ∷ xs) =
    let here = each x in
    let others = pieces f k each xs in
    let all = length-append (f x) (flat_map f xs) in
    omega arith

table_parts : (a b c d e : List ℕ) (p k : ℕ) → length a ≡ p → length b ≡ 4 → length c ≡ 4 → length d ≡ 4 → length e ≡ 4 * k → length (170 ∷ a ++ (b ++ (c ++ (d ++ e)))) ≡ 1 + p + 12 + 4 * k
table_parts a b c d e p k la lb lc ld le =
    omega (arith, length-append a (b ++ (c ++ (d ++ e))), length-append b (c ++ (d ++ e)), length-append c (d ++ e), length-append d e)

lookup_parts : (a b c e : List ℕ) (p k : ℕ) → length a ≡ p → length b ≡ 4 → length c ≡ 4 → length e ≡ 8 * k → length (171 ∷ a ++ (b ++ (c ++ e))) ≡ 1 + p + 8 + 8 * k
lookup_parts a b c e p k la lb lc le =
    omega (arith, length-append a (b ++ (c ++ e)), length-append b (c ++ e), length-append c e)

pub pads_size : (pc : ℕ) → length (pads pc) ≡ pad_length pc
pads_size pc = length-replicate {A = ℕ} (pad_length pc) 0

length-s4 : (n : ℤ) → length (s4 n) ≡ 4
length-s4 n = length-u4 (cast_unsigned w32 n)

two_s4 : (m n : ℤ) → length (s4 m ++ s4 n) ≡ 8
two_s4 m n = omega (arith, length-append (s4 m) (s4 n), length-s4 m, length-s4 n)

table_size : (starts : List ℕ) (items : List CodeItem) (n pc : ℕ) (lines : TableLines) → length (table_bytes starts items pc lines) ≡ size n pc (operation.Table lines)
unfolding table_bytes size
table_size starts items n pc lines =
    let default = offset starts items pc lines.default in
    let high = lines.low +ℤ pos (length lines.labels - 1) in
    let targets = flat_map (λ (label : List ℕ). s4 (offset starts items pc label)) lines.labels in
    table_parts (pads pc) (s4 default) (s4 lines.low) (s4 high) targets (pad_length pc) (length lines.labels) (pads_size pc) (length-s4 default) (length-s4 lines.low) (length-s4 high)
    (pieces (λ (label : List ℕ). s4 (offset starts items pc label)) 4 (λ label. length-s4 (offset starts items pc label)) lines.labels)

lookup_size : (starts : List ℕ) (items : List CodeItem) (n pc : ℕ) (lines : LookupLines) → length (lookup_bytes starts items pc lines) ≡ size n pc (operation.Lookup lines)
unfolding lookup_bytes size
lookup_size starts items n pc lines =
    let default = offset starts items pc lines.default in
    let cases = flat_map (λ (m : MatchLine). s4 m.value ++ s4 (offset starts items pc m.label)) lines.matches in
    lookup_parts (pads pc) (s4 default) (u4 (length lines.matches)) cases (pad_length pc) (length lines.matches) (pads_size pc) (length-s4 default) (length-u4 (length lines.matches))
    (pieces (λ (m : MatchLine). s4 m.value ++ s4 (offset starts items pc m.label)) 8 (λ (m : MatchLine). two_s4 m.value (offset starts items pc m.label)) lines.matches)

-- ---- Invokes

invoke_bytes_size : (n : ℕ) (how : Invoke) (descriptor : List ℕ) → length (invoke_opcode how ∷ u2 n ++ after_invoke how descriptor) ≡ invoke_size how
invoke_bytes_size n invoke.Interface descriptor = omega (arith, length-append (u2 n) (after_invoke invoke.Interface descriptor), length-u2 n)
invoke_bytes_size n invoke.Virtual descriptor = omega (arith, length-append (u2 n) [], length-u2 n)
invoke_bytes_size n invoke.Special descriptor = omega (arith, length-append (u2 n) [], length-u2 n)
invoke_bytes_size n invoke.Static descriptor = omega (arith, length-append (u2 n) [], length-u2 n)

-- ---- Each instruction

pub size_is : (starts : List ℕ) (items : List CodeItem) (n pc : ℕ) (o : Operation) → length (operation_bytes starts items n pc o) ≡ size n pc o
unfolding operation_bytes size
size_is starts items n pc (operation.Alone code) = refl
size_is starts items n pc (operation.PushByte k) = refl
size_is starts items n pc (operation.PushShort k) = ap suc (length-u2 (cast_unsigned w16 k))
size_is starts items n pc (operation.Constant constant_width.AsNeeded c) = constant_size n (nat_le n 255)
size_is starts items n pc (operation.Constant constant_width.Wide c) = ap suc (length-u2 n)
size_is starts items n pc (operation.ConstantLong k) = ap suc (length-u2 n)
size_is starts items n pc (operation.Local how k) = local_size (local_opcode how) k (nat_le k 255)
size_is starts items n pc (operation.Increment k by) = increment_size k by (is_byte_step k by)
size_is starts items n pc (operation.Branch branch_width.Short how label) = ap suc (length-u2 (cast_unsigned w16 (offset starts items pc label)))
size_is starts items n pc (operation.Branch branch_width.Wide how label) = ap suc (length-u4 (cast_unsigned w32 (offset starts items pc label)))
size_is starts items n pc (operation.Table lines) = table_size starts items n pc lines
size_is starts items n pc (operation.Lookup lines) = lookup_size starts items n pc lines
size_is starts items n pc (operation.Field how f) = ap suc (length-u2 n)
size_is starts items n pc (operation.Invoke how m) = invoke_bytes_size n how m.descriptor
size_is starts items n pc (operation.Class how name) = ap suc (length-u2 n)
size_is starts items n pc (operation.NewArray type) = refl
size_is starts items n pc (operation.MultiNewArray name count) = omega (arith, length-append (u2 n) (count ∷ []), length-u2 n)

-- ---- At least one byte

either_takes : (few : Bool) (m n : ℕ) → 0 < m → 0 < n → 0 < cond few m n
either_takes true m n some more = some
either_takes false m n some more = more

invoke_takes : (how : Invoke) → 0 < invoke_size how
invoke_takes invoke.Interface = omega arith
invoke_takes invoke.Virtual = omega arith
invoke_takes invoke.Special = omega arith
invoke_takes invoke.Static = omega arith

pub size_takes : (n pc : ℕ) (o : Operation) → 0 < size n pc o
unfolding size
size_takes n pc (operation.Alone code) = omega arith
size_takes n pc (operation.PushByte k) = omega arith
size_takes n pc (operation.PushShort k) = omega arith
size_takes n pc (operation.Constant constant_width.AsNeeded c) = either_takes (nat_le n 255) 2 3 (omega arith) (omega arith)
size_takes n pc (operation.Constant constant_width.Wide c) = omega arith
size_takes n pc (operation.ConstantLong k) = omega arith
size_takes n pc (operation.Local how k) = either_takes (nat_le k 255) 2 4 (omega arith) (omega arith)
size_takes n pc (operation.Increment k by) = either_takes (is_byte_step k by) 3 6 (omega arith) (omega arith)
size_takes n pc (operation.Branch branch_width.Short how label) = omega arith
size_takes n pc (operation.Branch branch_width.Wide how label) = omega arith
size_takes n pc (operation.Table lines) = omega arith
size_takes n pc (operation.Lookup lines) = omega arith
size_takes n pc (operation.Field how f) = omega arith
size_takes n pc (operation.Invoke how m) = invoke_takes how
size_takes n pc (operation.Class how name) = omega arith
size_takes n pc (operation.NewArray type) = omega arith
size_takes n pc (operation.MultiNewArray name count) = omega arith
