-- The bytes at which instructions start rise, so that each is at one place.
use Rattle.std.proofs.Common.{◌≡◌, ℕ, zero, suc, ◌+◌, ◌≤◌, ◌<◌, true, false, List, [], ◌∷◌, length, get_or, Some, refl, ap, subst, ◌∙◌, arith}
use Rattle.std.specs.Prelude.{slice_get, ◌==◌, nat_lt}
use Rattle.std.specs.List.{position_or_len}
use Rattle.std.proofs.lemmas.List.{length-append}
use Rattle.std.proofs.lemmas.List.Sums.{position_or_len_is}
use Rattle.std.proofs.lemmas.List.Quantifiers.{position-Some}
use Rattle.std.proofs.lemmas.Option.{none-some, same_Some, slice_get-get_or, get_or_from_slice_get, slice_get_within}
use Rattle.std.proofs.lemmas.Bool.{ne_eqb, eq-eqb, lt-ltb, eqb-true}
use Rattle.jvms_file.specs.declared.class_file.Constant.{Constant}
use Rattle.jvms_file.specs.declared.insn.Insn.{Insn}
use Rattle.jvms_file.specs.Code.{place_of}
use Rattle.jvms_file.specs.Spelling.{SpellsInsn, SpellsFrom, SpellsInsns}
use Rattle.classfile_laws.proofs.InsnForms.{formed}

-- Starts from `low` on and below `end`, each above the one before it.
abbrev pub AreStarts : ℕ → ℕ → List ℕ → Type 0
AreStarts low end [] = Unit {0}
AreStarts low end (pc ∷ pcs) = (low ≤ pc) × (pc < end) × AreStarts (suc pc) end pcs

-- ---- The place of a start.

-- Starts from a number on are starts from a lower one on.
starts_above : (low lower end : ℕ) (pcs : List ℕ) → lower ≤ low → AreStarts low end pcs → AreStarts lower end pcs
starts_above low lower end [] le s = tt
starts_above low lower end (pc ∷ pcs) le s = let first = s.0 in (omega arith, s.1, s.2)

pub start_above : (low end : ℕ) (pcs : List ℕ) (place pc : ℕ) → AreStarts low end pcs → slice_get pcs place ≡ Some pc → low ≤ pc
start_above low end [] place pc s is = absurd (none-some pc is)
start_above low end (q ∷ pcs) zero pc s is = subst (λ (n : ℕ). low ≤ n) (same_Some q pc is) s.0
start_above low end (q ∷ pcs) (suc place) pc s is = let first = s.0 in let later = start_above (suc q) end pcs place pc s.2 is in omega arith

pub start_below : (low end : ℕ) (pcs : List ℕ) (place pc : ℕ) → AreStarts low end pcs → slice_get pcs place ≡ Some pc → pc < end
start_below low end [] place pc s is = absurd (none-some pc is)
start_below low end (q ∷ pcs) zero pc s is = subst (λ (n : ℕ). n < end) (same_Some q pc is) s.1
start_below low end (q ∷ pcs) (suc place) pc s is = start_below (suc q) end pcs place pc s.2 is

-- A start before another is lower.
pub start_before : (low end : ℕ) (pcs : List ℕ) (place pc k : ℕ) → AreStarts low end pcs → slice_get pcs place ≡ Some pc → k < place → get_or pcs k 0 < pc
start_before low end [] place pc k s is lt = absurd (none-some pc is)
start_before low end (q ∷ pcs) zero pc k s is lt = absurd (omega arith)
start_before low end (q ∷ pcs) (suc place) pc zero s is lt = start_above (suc q) end pcs place pc s.2 is
start_before low end (q ∷ pcs) (suc place) pc (suc k) s is lt = start_before (suc q) end pcs place pc k s.2 is (omega arith)

-- The start at a place has that place.
pub place_of_start : (low end : ℕ) (pcs : List ℕ) (place pc : ℕ) → AreStarts low end pcs → slice_get pcs place ≡ Some pc → place_of pcs pc ≡ Some place
place_of_start low end pcs place pc s is =
    let within : place < length pcs = slice_get_within pcs place pc is in
    let here : get_or pcs place 0 ≡ pc = get_or_from_slice_get pcs place pc 0 is in
    let first : position_or_len (λ q. q == pc) pcs ≡ place =
    position_or_len_is (λ q. q == pc) pcs place 0 (omega arith) (λ k lt. lower (get_or pcs k 0) (start_before low end pcs place pc k s is lt)) (λ lt. eq-eqb (get_or pcs place 0) pc here) in
    let inside : nat_lt place (length pcs) ≡ true = lt-ltb place (length pcs) within in
    rw (first, inside) refl
  where
    lower : (q : ℕ) → q < pc → (q == pc) ≡ false
    lower q lt = ne_eqb q pc (λ e. omega arith)

-- The start is found at its place.
pub start_at_place : (pcs : List ℕ) (place pc : ℕ) → place_of pcs pc ≡ Some place → slice_get pcs place ≡ Some pc
start_at_place pcs place pc is =
    let found = position-Some (λ q. q == pc) pcs place 0 is in
    slice_get-get_or pcs place 0 found.0 ∙ ap (λ (n : ℕ). Some n) (eqb-true (get_or pcs place 0) pc found.1)

-- ---- The starts of spelled instructions.

-- An instruction has at least one byte.
pub insn_takes : (pool : List Constant) (major : ℕ) (pcs : List ℕ) (pc : ℕ) (first : List ℕ) (i : Insn) → SpellsInsn pool major pcs pc first i → 0 < length first
insn_takes pool major pcs pc first i h =
    let f = formed pool major pcs pc first i h in
    rw f.bytes_are (omega arith)

starts_of_from : (pool : List Constant) (major : ℕ) (pcs : List ℕ) (pc : ℕ) (bytes : List ℕ) (is : List Insn) (begun : List ℕ) → SpellsFrom pool major pcs pc bytes is begun → AreStarts pc (pc + length bytes) begun
starts_of_from pool major pcs pc bytes [] begun (none, nothing) = rw nothing tt
starts_of_from pool major pcs pc bytes (i ∷ is) begun (first, rest, later, whole, starts, spelt, behind) =
    let takes : 0 < length first = insn_takes pool major pcs pc first i spelt in
    let size : (pc + length first) + length rest ≡ pc + length bytes = rw (whole, length-append first rest) (omega arith) in
    let above : AreStarts (pc + length first) (pc + length bytes) later = subst (λ (end : ℕ). AreStarts (pc + length first) end later) size (starts_of_from pool major pcs (pc + length first) rest is later behind) in
    rw starts (omega arith, omega arith, starts_above (pc + length first) (suc pc) (pc + length bytes) later (omega arith) above)

-- The starts of spelled instructions rise from 0 on, and are bytes of the code.
pub starts_of : (pool : List Constant) (major : ℕ) (pcs code : List ℕ) (is : List Insn) → SpellsInsns pool major pcs code is → AreStarts 0 (length code) pcs
starts_of pool major pcs code is h = subst (λ (end : ℕ). AreStarts 0 end pcs) (omega arith) (starts_of_from pool major pcs 0 code is pcs h)
