-- Proves that the opcode that is read at the start of an instruction is that of its spelling (JVMS 6.5).
use Rattle.std.proofs.Common.{◌≡◌, ℕ, suc, ◌+◌, ◌<◌, Bool, true, false, ◌==◌, List, [], ◌∷◌, ◌++◌, length, Option, Some, None, refl, sym, ap, ◌∙◌, subst, arith}
use Rattle.std.specs.Prelude.{slice_get}
use Rattle.std.proofs.lemmas.Bool.{false≢true, false_from_ne_true, eqb-true, agree_below, agree_below_at}
use Rattle.std.proofs.lemmas.Option.{same_Some, slice_get_within}
use Rattle.jvms_file.specs.declared.insn.TheConstants.{OPCODES}
use Rattle.jvms_file.specs.declared.insn.Opcode.{Opcode}
use Rattle.jvms_file.specs.declared.insn.Opcode.TheVariants as opcode
use Rattle.jvms_file.specs.Spelling.{IsOpcode}
use Rattle.listing_spec.specs.TreeOf.{opcode_at}

-- The bytes of an instruction are at a byte of code.
pub record IsAt (bytes : List ℕ) (pc : ℕ) (first : List ℕ) : Type 0 where
  pub front : List ℕ
  pub rest : List ℕ
  pub whole : bytes ≡ front ++ (first ++ rest)
  pub place : pc ≡ length front

-- ---- Bytes by place

got_behind : (front behind : List ℕ) (k : ℕ) → slice_get (front ++ behind) (length front + k) ≡ slice_get behind k
got_behind [] behind k = ap (λ (n : ℕ). slice_get behind n) (omega arith)
got_behind (b ∷ front) behind k =
    let next : length (b ∷ front) + k ≡ suc (length front + k) = omega arith in
    ap (λ (n : ℕ). slice_get (b ∷ (front ++ behind)) n) next ∙ got_behind front behind k

byte_at : (bytes : List ℕ) (pc : ℕ) (first : List ℕ) (k n : ℕ) (at : IsAt bytes pc first) → n ≡ pc + k → slice_get bytes n ≡ slice_get (first ++ at.rest) k
byte_at bytes pc first k n at is =
    let place : n ≡ length at.front + k = let start = at.place in omega arith in
    ap (λ (b : List ℕ). slice_get b n) at.whole ∙ ap (λ (m : ℕ). slice_get (at.front ++ (first ++ at.rest)) m) place ∙ got_behind at.front (first ++ at.rest) k

-- The first byte of an instruction is at its start. Below, the second one.
first_byte : (bytes : List ℕ) (pc : ℕ) (first : List ℕ) (b : ℕ) (more : List ℕ) → IsAt bytes pc first → first ≡ b ∷ more → slice_get bytes pc ≡ Some b
first_byte bytes pc first b more at is = byte_at bytes pc first 0 pc at (omega arith) ∙ ap (λ (f : List ℕ). slice_get (f ++ at.rest) 0) is

second_byte : (bytes : List ℕ) (pc : ℕ) (first : List ℕ) (a b : ℕ) (more : List ℕ) → IsAt bytes pc first → first ≡ a ∷ b ∷ more → slice_get bytes (suc pc) ≡ Some b
second_byte bytes pc first a b more at is = byte_at bytes pc first 1 (suc pc) at (omega arith) ∙ ap (λ (f : List ℕ). slice_get (f ++ at.rest) 1) is

-- ---- wide

abbrev pub is_wide : Opcode → Bool
is_wide opcode.Wide = true
is_wide _ = false

no_wide : (code : ℕ) (form : Opcode) → IsOpcode code form → is_wide form ≡ false → (code == 196) ≡ false
no_wide code form is plain =
    false_from_ne_true (code == 196) (λ same.
    let there : slice_get OPCODES 196 ≡ Some form = subst (λ (n : ℕ). slice_get OPCODES n ≡ Some form) (eqb-true code 196 same) is in
    false≢true (sym plain ∙ sym (ap is_wide (same_Some opcode.Wide form there))))

abbrev is_wide_at : Option Opcode → Bool
is_wide_at None = false
is_wide_at (Some form) = is_wide form

-- Only one opcode is that of wide.
wide_places : agree_below (λ n. is_wide_at (slice_get OPCODES n)) (λ n. n == 196) 202 ≡ true
wide_places = refl

wide_is : (code : ℕ) → IsOpcode code opcode.Wide → (code == 196) ≡ true
wide_is code is =
    let below : code < 202 = slice_get_within OPCODES code opcode.Wide is in
    sym (agree_below_at (λ n. is_wide_at (slice_get OPCODES n)) (λ n. n == 196) 202 code wide_places below) ∙ ap is_wide_at is

-- ---- The opcode at an instruction's start

-- An instruction without wide has the opcode of its first byte.
pub own_opcode : (bytes : List ℕ) (pc : ℕ) (first : List ℕ) (code : ℕ) (form : Opcode) (more : List ℕ) → IsAt bytes pc first → IsOpcode code form → is_wide form ≡ false → first ≡ code ∷ more → opcode_at bytes pc ≡ code
own_opcode bytes pc first code form more at is plain begins = rw (first_byte bytes pc first code more at begins, no_wide code form is plain) refl

-- An instruction after wide has the opcode of its second byte.
pub widened_opcode : (bytes : List ℕ) (pc : ℕ) (first : List ℕ) (wide code : ℕ) (more : List ℕ) → IsAt bytes pc first → IsOpcode wide opcode.Wide → first ≡ wide ∷ code ∷ more → opcode_at bytes pc ≡ code
widened_opcode bytes pc first wide code more at is begins =
    rw (first_byte bytes pc first wide (code ∷ more) at begins, wide_is wide is, second_byte bytes pc first wide code more at begins) refl
