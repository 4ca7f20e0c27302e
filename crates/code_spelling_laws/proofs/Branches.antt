-- Proves that their bytes spell branches, with an offset of two bytes or of four (JVMS 6.5 goto, goto_w).
use Rattle.std.proofs.Common.{◌≡◌, ℕ, zero, suc, ◌<◌, Bool, true, false, List, [], ◌∷◌, Some, refl, sym, ap, ◌∙◌, inl, inr}
use Rattle.std.specs.Prelude.{slice_get}
use Rattle.std.specs.List.{list_all}
use Rattle.std.specs.Int.{w16, w32, cast_unsigned}
use Rattle.std.proofs.lemmas.Bool.{false≢true, and_parts}
use Rattle.std.proofs.lemmas.Option.{none-some, same_Some}
use Rattle.jvms_file.specs.declared.insn.TheConstants.{OPCODES}
use Rattle.jvms_file.specs.declared.insn.Opcode.{Opcode}
use Rattle.jvms_file.specs.declared.insn.Opcode.TheVariants as opcode
use Rattle.jvms_file.specs.declared.insn.Comparison.TheVariants as comparison
use Rattle.jvms_file.specs.declared.insn.Branch.{Branch}
use Rattle.jvms_file.specs.declared.insn.Branch.TheVariants as branch
use Rattle.jvms_file.specs.Instructions.{target_of}
use Rattle.jvms_file.specs.Spelling.{IsOpcode, LeadsTo, SpellsBranch}
use Rattle.jasmin.specs.declared.source.CodeItem.{CodeItem}
use Rattle.jasmin.specs.Denote.{target}
use Rattle.source_form_laws.specs.Formed.{IsSigned}
use Rattle.assembly.specs.Sizes.{label_byte, offset}
use Rattle.assembly.specs.Opcodes.{branch_opcode, wide_branch_opcode}
use Rattle.assembly.specs.Bytes.{s2, s4}
use Rattle.code_spelling_laws.proofs.Numbers.{bits16, leads, offset32}
use Rattle.code_spelling_laws.proofs.Labels.{Leads}

-- ---- Opcodes

branch_opcode_is : (how : Branch) → IsOpcode (branch_opcode how) (opcode.Branch how)
branch_opcode_is (branch.IfZero comparison.Equal) = refl
branch_opcode_is (branch.IfZero comparison.NotEqual) = refl
branch_opcode_is (branch.IfZero comparison.Less) = refl
branch_opcode_is (branch.IfZero comparison.GreaterOrEqual) = refl
branch_opcode_is (branch.IfZero comparison.Greater) = refl
branch_opcode_is (branch.IfZero comparison.LessOrEqual) = refl
branch_opcode_is (branch.IfInts comparison.Equal) = refl
branch_opcode_is (branch.IfInts comparison.NotEqual) = refl
branch_opcode_is (branch.IfInts comparison.Less) = refl
branch_opcode_is (branch.IfInts comparison.GreaterOrEqual) = refl
branch_opcode_is (branch.IfInts comparison.Greater) = refl
branch_opcode_is (branch.IfInts comparison.LessOrEqual) = refl
branch_opcode_is branch.IfSame = refl
branch_opcode_is branch.IfDifferent = refl
branch_opcode_is branch.Goto = refl
branch_opcode_is branch.Subroutine = refl
branch_opcode_is branch.IfNull = refl
branch_opcode_is branch.IfNonNull = refl

-- Decides whether a branch has a form with an offset of four bytes. Only goto and jsr have.
has_wide : Branch → Bool
has_wide branch.Goto = true
has_wide branch.Subroutine = true
has_wide _ = false

is_known : Opcode → Bool
is_known (opcode.BranchWide how) = has_wide how
is_known _ = true

all_known : list_all is_known OPCODES ≡ true
unfolding is_known has_wide
all_known = refl

-- A test that holds for all elements of a list holds for the element at each place.
at_place : {A : Type 0} (test : A → Bool) (xs : List A) (place : ℕ) (x : A) → list_all test xs ≡ true → slice_get xs place ≡ Some x → test x ≡ true
at_place test [] place x all is = absurd (none-some x is)
at_place test (y ∷ xs) zero x all is = ap test (sym (same_Some y x is)) ∙ (and_parts (test y) (list_all test xs) all).0
at_place test (y ∷ xs) (suc place) x all is = at_place test xs place x (and_parts (test y) (list_all test xs) all).1 is

wide_of : (how : Branch) → has_wide how ≡ true → IsOpcode (wide_branch_opcode how) (opcode.BranchWide how)
unfolding has_wide
wide_of branch.Goto has = refl
wide_of branch.Subroutine has = refl
wide_of how has = absurd (false≢true has)

-- A branch with an offset of four bytes has the opcode of its form.
wide_opcode_is : (how : Branch) (code : ℕ) → IsOpcode code (opcode.BranchWide how) → IsOpcode (wide_branch_opcode how) (opcode.BranchWide how)
unfolding is_known
wide_opcode_is how code is = wide_of how (at_place is_known OPCODES code (opcode.BranchWide how) all_known is)

-- ---- Offsets

-- An offset of four bytes reaches its label.
pub leads_to : (starts : List ℕ) (items : List CodeItem) (pc : ℕ) (label : List ℕ) → pc < 65536 → Leads starts items label → LeadsTo starts pc (target items label) (cast_unsigned w32 (offset starts items pc label))
leads_to starts items pc label near to =
    let q = label_byte starts items label in
    let bits = offset32 pc q near to.below in
    (bits.below, to.byte_is ∙ ap (λ (n : ℕ). Some n) (sym (leads pc q near to.below) ∙ ap (target_of pc) bits.again))

pub short_is_spelled : (starts : List ℕ) (items : List CodeItem) (pc : ℕ) (how : Branch) (label : List ℕ) → pc < 65536 → Leads starts items label → IsSigned 15 (offset starts items pc label) → SpellsBranch starts pc (branch_opcode how ∷ s2 (offset starts items pc label)) how (target items label)
short_is_spelled starts items pc how label near to fits =
    let q = label_byte starts items label in
    let bits = bits16 (offset starts items pc label) fits in
    let there = to.byte_is ∙ ap (λ (n : ℕ). Some n) (sym (leads pc q near to.below) ∙ ap (target_of pc) bits.again) in
    inl (branch_opcode how, branch_opcode_is how, cast_unsigned w16 (offset starts items pc label), bits.below, there, refl)

pub wide_is_spelled : (starts : List ℕ) (items : List CodeItem) (pc : ℕ) (how : Branch) (label : List ℕ) (code : ℕ) → pc < 65536 → Leads starts items label → IsOpcode code (opcode.BranchWide how) → SpellsBranch starts pc (wide_branch_opcode how ∷ s4 (offset starts items pc label)) how (target items label)
wide_is_spelled starts items pc how label code near to is =
    inr (wide_branch_opcode how, wide_opcode_is how code is, cast_unsigned w32 (offset starts items pc label), leads_to starts items pc label near to, refl)
