-- Proves that their bytes spell instructions in order (JVMS 4.7.3, 6.5).
use Rattle.std.proofs.Common.{◌≡◌, ℕ, ◌+◌, ◌-◌, ◌^◌, ◌≤◌, ◌<◌, false, List, [], ◌∷◌, length, refl, sym, subst, arith}
use Rattle.std.specs.Prelude.{pos, neg_ℤ}
use Rattle.std.specs.List.{AllByRecursion}
use Rattle.std.proofs.lemmas.Bool.{or_parts, not-false}
use Rattle.jvms_file.specs.declared.class_file.Constant.{Constant}
use Rattle.jvms_file.specs.declared.insn.Branch.{Branch}
use Rattle.jvms_file.specs.Spelling.{SpellsInsn, SpellsFrom}
use Rattle.jasmin.specs.declared.source.BranchWidth.TheVariants as branch_width
use Rattle.jasmin.specs.declared.source.LookupLines.{LookupLines}
use Rattle.jasmin.specs.declared.source.Operation.{Operation}
use Rattle.jasmin.specs.declared.source.Operation.TheVariants as operation
use Rattle.jasmin.specs.declared.source.CodeItem.{CodeItem}
use Rattle.source_form_laws.specs.Formed.{IsSigned, IsFormedOperation}
use Rattle.assembly.specs.Sizes.{is_between, offset, size, end_from, starts_from, is_too_far, any_too_far}
use Rattle.assembly.specs.Bytes.{operation_bytes, bytes_from}
use Rattle.assembly.specs.Named.{NamesOperand, AreOperands}
use Rattle.assembly.specs.CodeOf.{insn_of, insns_from}
use Rattle.code_spelling_laws.proofs.Sizes.{size_is}
use Rattle.code_spelling_laws.proofs.Starts.{end_above}
use Rattle.code_spelling_laws.proofs.Labels.{LabelsLead}
use Rattle.code_spelling_laws.proofs.Simple.{alone_is_spelled, push_byte_is_spelled, push_short_is_spelled, local_is_spelled, increment_is_spelled, new_array_is_spelled}
use Rattle.code_spelling_laws.proofs.Branches.{short_is_spelled, wide_is_spelled}
use Rattle.code_spelling_laws.proofs.Switches.{table_is_spelled, lookup_is_spelled}
use Rattle.code_spelling_laws.proofs.Members.{load_is_spelled, long_is_spelled, field_is_spelled, invoke_is_spelled, class_is_spelled, multi_new_array_is_spelled}

-- ---- One instruction

-- A branch that isn't too far has an offset that fits two bytes.
near_enough : (starts : List ℕ) (items : List CodeItem) (pc : ℕ) (how : Branch) (label : List ℕ) → is_too_far starts items pc (operation.Branch branch_width.Short how label) ≡ false → IsSigned 15 (offset starts items pc label)
unfolding is_too_far
near_enough starts items pc how label near = not-false (is_between (neg_ℤ (pos (2 ^ 15))) (pos (2 ^ 15 - 1)) (offset starts items pc label)) near

-- A lookupswitch that fits code has less than 2^31 matches.
few_matches : (n pc : ℕ) (lines : LookupLines) → pc + size n pc (operation.Lookup lines) ≤ 65535 → length lines.matches < 2 ^ 31
unfolding size
few_matches n pc lines small = omega arith

-- Its bytes spell an instruction, in code of at most 65535 bytes, if its labels mark instructions and aren't too far.
pub operation_is_spelled : (pool : List Constant) (starts : List ℕ) (items : List CodeItem) (n pc : ℕ) (o : Operation) → pc + size n pc o ≤ 65535 → NamesOperand pool n o → IsFormedOperation o → LabelsLead starts items o → is_too_far starts items pc o ≡ false
    → SpellsInsn pool 49 starts pc (operation_bytes starts items n pc o) (insn_of items n o)
unfolding NamesOperand IsFormedOperation operation_bytes insn_of
operation_is_spelled pool starts items n pc (operation.Alone code) small named formed to near = alone_is_spelled code formed.0 formed.1
operation_is_spelled pool starts items n pc (operation.PushByte k) small named formed to near = push_byte_is_spelled k formed
operation_is_spelled pool starts items n pc (operation.PushShort k) small named formed to near = push_short_is_spelled k formed
operation_is_spelled pool starts items n pc (operation.Constant width c) small named formed to near = load_is_spelled pool n width c named
operation_is_spelled pool starts items n pc (operation.ConstantLong k) small named formed to near = long_is_spelled pool n k named.0 named.1
operation_is_spelled pool starts items n pc (operation.Local how k) small named formed to near = local_is_spelled how k formed
operation_is_spelled pool starts items n pc (operation.Increment k by) small named formed to near = increment_is_spelled k by formed.0 formed.1
operation_is_spelled pool starts items n pc (operation.Branch branch_width.Short how label) small named formed to near =
    short_is_spelled starts items pc how label (omega arith) to.0 (near_enough starts items pc how label near)
operation_is_spelled pool starts items n pc (operation.Branch branch_width.Wide how label) small named formed to near =
    wide_is_spelled starts items pc how label formed.0 (omega arith) to.0 formed.1
operation_is_spelled pool starts items n pc (operation.Table lines) small named formed to near = table_is_spelled starts items pc lines (omega arith) to formed
operation_is_spelled pool starts items n pc (operation.Lookup lines) small named formed to near =
    lookup_is_spelled starts items pc lines (omega arith) (few_matches n pc lines small) to formed
operation_is_spelled pool starts items n pc (operation.Field how f) small named formed to near = field_is_spelled pool starts pc n how f named.0 named.1
operation_is_spelled pool starts items n pc (operation.Invoke how m) small named formed to near = invoke_is_spelled pool starts pc n how m named.0 named.1 formed
operation_is_spelled pool starts items n pc (operation.Class how name) small named formed to near = class_is_spelled pool starts pc n how name named formed.1
operation_is_spelled pool starts items n pc (operation.NewArray type) small named formed to near = new_array_is_spelled type
operation_is_spelled pool starts items n pc (operation.MultiNewArray name count) small named formed to near =
    multi_new_array_is_spelled pool starts pc n count name named formed.1 formed.2

-- ---- All

-- Their bytes spell the instructions from byte pc on.
pub operations_are_spelled : (pool : List Constant) (starts : List ℕ) (items : List CodeItem) (pc : ℕ) (numbers : List ℕ) (os : List Operation) → end_from pc numbers os ≤ 65535 → AreOperands pool numbers os → AllByRecursion IsFormedOperation os → AllByRecursion (LabelsLead starts items) os → any_too_far starts items (starts_from pc numbers os) os ≡ false
    → SpellsFrom pool 49 starts pc (bytes_from starts items numbers (starts_from pc numbers os) os) (insns_from items numbers os) (starts_from pc numbers os)
unfolding end_from starts_from any_too_far bytes_from insns_from
operations_are_spelled pool starts items pc [] [] small named formed to near = (refl, refl)
operations_are_spelled pool starts items pc [] (o ∷ os) small named formed to near = absurd named
operations_are_spelled pool starts items pc (n ∷ numbers) [] small named formed to near = absurd named
operations_are_spelled pool starts items pc (n ∷ numbers) (o ∷ os) small named formed to near =
    let next = pc + size n pc o in
    let later = starts_from next numbers os in
    let above : next ≤ end_from next numbers os = end_above next numbers os in
    let far = or_parts (is_too_far starts items pc o) (any_too_far starts items later os) near in
    let first = operation_is_spelled pool starts items n pc o (omega arith) named.0 formed.0 to.0 far.0 in
    let others = operations_are_spelled pool starts items next numbers os small named.1 formed.1 to.1 far.1 in (
      operation_bytes starts items n pc o,
      bytes_from starts items numbers later os,
      later,
      refl,
      refl,
      first,
      subst (λ (k : ℕ). SpellsFrom pool 49 starts (pc + k) (bytes_from starts items numbers later os) (insns_from items numbers os) later) (sym (size_is starts items n pc o)) others,
    )
