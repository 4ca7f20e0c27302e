-- Proves that the mnemonic of an opcode is read as that opcode.
use Rattle.std.proofs.Common.{◌≡◌, ℕ, ◌<◌, ◌&&◌, ◌||◌, Bool, true, false, not, eqb, Option, Some, None, refl, sym, ap, ◌∙◌}
use Rattle.std.specs.Prelude.{slice_get}
use Rattle.std.proofs.lemmas.Bool.{agree_below, agree_below_at, and_parts, eqb-true, not-true, true≢false}
use Rattle.std.proofs.lemmas.Option.{slice_get_within}
use Rattle.jvms_file.specs.Names.{begins_with}
use Rattle.jvms_file.specs.declared.insn.TheConstants.{OPCODES}
use Rattle.jvms_file.specs.declared.insn.Opcode.{Opcode}
use Rattle.jvms_file.specs.declared.insn.Opcode.TheVariants as opcode
use Rattle.jvms_file.specs.Spelling.{IsOpcode}
use Rattle.jasmin.specs.LineKinds.{opcode_named}
use Rattle.listing_spec.specs.Printed.{mnemonic}
use Rattle.listing_laws.proofs.Words.{IsPlain, is_plain, plain_from}

-- The mnemonic of an opcode is a plain word that is read as the opcode.
pub record IsMnemonic (code : ℕ) : Type 0 where
  pub named : opcode_named (mnemonic code) ≡ Some code
  pub word : IsPlain (mnemonic code)
  pub no_dot : begins_with 46 (mnemonic code) ≡ false

abbrev is_this : ℕ → Option ℕ → Bool
is_this code None = false
is_this code (Some n) = eqb n code

this : (code : ℕ) (o : Option ℕ) → is_this code o ≡ true → o ≡ Some code
this code None e = absurd cc
this code (Some n) e = ap (λ (m : ℕ). Some m) (eqb-true n code e)

-- Decides whether an opcode has no mnemonic: `wide`, and the opcode 186 that these versions lack.
abbrev is_unnamed : ℕ → Bool
is_unnamed code = eqb code 186 || eqb code 196

abbrev name_test : ℕ → Bool
name_test code = is_unnamed code || (is_this code (opcode_named (mnemonic code)) && (is_plain (mnemonic code) && not (begins_with 46 (mnemonic code))))

abbrev always : ℕ → Bool
always n = true

name_tests : agree_below name_test always 202 ≡ true
name_tests = refl

no_reserved : (a b : Bool) → (a || b) ≡ true → a ≡ false → b ≡ true
no_reserved true b e is = absurd cc
no_reserved false b e is = e

mnemonic_by : (code : ℕ) → code < 202 → is_unnamed code ≡ false → IsMnemonic code
mnemonic_by code small other =
    let test = no_reserved (is_unnamed code) (is_this code (opcode_named (mnemonic code)) && (is_plain (mnemonic code) && not (begins_with 46 (mnemonic code)))) (agree_below_at name_test always 202 code name_tests small) other in
    let first = and_parts (is_this code (opcode_named (mnemonic code))) (is_plain (mnemonic code) && not (begins_with 46 (mnemonic code))) test in
    let second = and_parts (is_plain (mnemonic code)) (not (begins_with 46 (mnemonic code))) first.1 in
    record { named = this code (opcode_named (mnemonic code)) first.0; word = plain_from (mnemonic code) second.0; no_dot = not-true (begins_with 46 (mnemonic code)) second.1 }

abbrev pub is_nameless : Opcode → Bool
is_nameless opcode.Reserved = true
is_nameless opcode.Wide = true
is_nameless _ = false

abbrev nameless_in : Option Opcode → Bool
nameless_in None = true
nameless_in (Some f) = is_nameless f

-- An opcode with a mnemonic is none of those without.
other_number : (code n : ℕ) (form : Opcode) → IsOpcode code form → is_nameless form ≡ false → nameless_in (slice_get OPCODES n) ≡ true → eqb code n ≡ false
other_number code n form is other bad = by (eqb code n) refl
  where
    by : (b : Bool) → eqb code n ≡ b → eqb code n ≡ false
    by true same = absurd (true≢false (sym bad ∙ ap (λ (m : ℕ). nameless_in (slice_get OPCODES m)) (sym (eqb-true code n same)) ∙ ap nameless_in is ∙ other))
    by false same = same

-- An opcode of a form that has a mnemonic is read from it.
pub mnemonic_is : (code : ℕ) (form : Opcode) → IsOpcode code form → is_nameless form ≡ false → IsMnemonic code
mnemonic_is code form is other =
    let small : code < 202 = slice_get_within OPCODES code form is in
    mnemonic_by code small (rw (other_number code 186 form is other refl, other_number code 196 form is other refl) refl)
