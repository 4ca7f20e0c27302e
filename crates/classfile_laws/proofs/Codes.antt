-- The code of a method: its bytes spell instructions, and these are read from them, both ways.
use Rattle.std.proofs.Common.{◌≡◌, ℕ, zero, suc, ◌+◌, ◌-◌, ◌≤◌, ◌<◌, List, [], ◌∷◌, length, Result, Ok, refl, sym, ap, subst, ◌∙◌, arith}
use Rattle.std.proofs.lemmas.List.{length-append}
use Rattle.jvms_file.specs.declared.class_file.Constant.{Constant}
use Rattle.jvms_file.specs.declared.fault.ClassFault.{ClassFault}
use Rattle.jvms_file.specs.declared.fault.ClassFault.TheVariants as fault
use Rattle.jvms_file.specs.declared.insn.Insn.{Insn}
use Rattle.jvms_file.specs.Results.{present}
use Rattle.jvms_file.specs.Instructions.{insn_at}
use Rattle.jvms_file.specs.Code.{InsnAtByte, insns_at_bytes_from, insns_at_bytes, starts, with_places, insns_with_places, insns_of}
use Rattle.jvms_file.specs.Spelling.{SpellsFrom, SpellsInsns}
use Rattle.classfile_laws.proofs.Numbers.{IsBytes}
use Rattle.classfile_laws.proofs.InsnStarts.{AreStarts, insn_takes, starts_of}
use Rattle.classfile_laws.proofs.InsnAgain.{InsnAgain, insn_again}
use Rattle.classfile_laws.proofs.InsnSteps.{step, read_parts, present_is, joined}
use Rattle.classfile_laws.proofs.InsnFound.{InsnFound, insn_or_fault}

-- ---- Spelled instructions are read.

record PlacedAgain (most : ℕ) (pool : List Constant) (major : ℕ) (pcs : List ℕ) (pc : ℕ) (bytes : List ℕ) (is : List Insn) (begun : List ℕ) : Type 0 where
  found : List InsnAtByte
  reads : insns_at_bytes_from most pool major pc bytes ≡ Ok found
  begins : starts found ≡ begun
  places : insns_with_places pcs found ≡ Ok is

none_again : (most : ℕ) (pool : List Constant) (major : ℕ) (pcs : List ℕ) (pc : ℕ) → PlacedAgain most pool major pcs pc [] [] []
unfolding insns_at_bytes_from
none_again zero pool major pcs pc = record { found = []; reads = refl; begins = refl; places = refl }
none_again (suc most) pool major pcs pc = record { found = []; reads = refl; begins = refl; places = refl }

-- One instruction, followed by the others.
one_again : (most : ℕ) (pool : List Constant) (major : ℕ) (pcs : List ℕ) (pc next : ℕ) (bytes rest : List ℕ) (i : Insn) (is : List Insn) (later : List ℕ) → 0 < length bytes → pc + (length bytes - length rest) ≡ next → InsnAgain pool major pcs pc bytes rest i → PlacedAgain most pool major pcs next rest is later → PlacedAgain (suc most) pool major pcs pc bytes (i ∷ is) (pc ∷ later)
unfolding insns_at_bytes_from
one_again most pool major pcs pc next [] rest i is later some follows one others = absurd (omega arith)
one_again most pool major pcs pc next (b ∷ bytes) rest i is later some follows one others =
    let behind : insns_at_bytes_from most pool major (pc + (length (b ∷ bytes) - length rest)) rest ≡ Ok others.found = subst (λ (n : ℕ). insns_at_bytes_from most pool major n rest ≡ Ok others.found) (sym follows) others.reads in
    record {
      found = record { pc = pc; insn = one.read } ∷ others.found;
      reads = rw (one.reads, behind) refl;
      begins = ap (λ (ps : List ℕ). pc ∷ ps) others.begins;
      places = rw (one.placed, others.places) refl;
    }

placed_again : (end most : ℕ) (pool : List Constant) (major : ℕ) (pcs : List ℕ) (pc : ℕ) (bytes : List ℕ) (is : List Insn) (begun : List ℕ) → AreStarts 0 end pcs → length bytes ≤ most → SpellsFrom pool major pcs pc bytes is begun → PlacedAgain most pool major pcs pc bytes is begun
placed_again end most pool major pcs pc bytes [] begun s enough (none, nothing) = rw (none, nothing) (none_again most pool major pcs pc)
placed_again end zero pool major pcs pc bytes (i ∷ is) begun s enough (first, rest, later, whole, begins, spells, behind) =
    let takes : 0 < length first = insn_takes pool major pcs pc first i spells in
    let size : length bytes ≡ length first + length rest = rw whole (length-append first rest) in
    absurd (omega arith)
placed_again end (suc most) pool major pcs pc bytes (i ∷ is) begun s enough (first, rest, later, whole, begins, spells, behind) =
    let takes : 0 < length first = insn_takes pool major pcs pc first i spells in
    let size : length bytes ≡ length first + length rest = rw whole (length-append first rest) in
    let one : InsnAgain pool major pcs pc bytes rest i = subst (λ (b : List ℕ). InsnAgain pool major pcs pc b rest i) (sym whole) (insn_again pool major pcs pc end first rest i s spells) in
    let others = placed_again end most pool major pcs (pc + length first) rest is later s (omega arith) behind in
    subst (λ (ps : List ℕ). PlacedAgain (suc most) pool major pcs pc bytes (i ∷ is) ps) (sym begins) (one_again most pool major pcs pc (pc + length first) bytes rest i is later (omega arith) (omega arith) one others)

-- Bytes that spell instructions are read as those, with their starts.
pub spelled_insns_are_read : (pool : List Constant) (major : ℕ) (code : List ℕ) (is : List Insn) (pcs : List ℕ) → SpellsInsns pool major pcs code is → insns_of pool major code ≡ Ok (pcs, is)
unfolding insns_of
spelled_insns_are_read pool major code is pcs h =
    let a = placed_again (length code) (length code) pool major pcs 0 code is pcs (starts_of pool major pcs code is h) (omega arith) h in
    rw (a.reads, a.begins, a.places) refl

-- ---- Read instructions are spelled so.

-- One instruction, followed by the others.
one_from : (pool : List Constant) (major : ℕ) (pcs : List ℕ) (pc next : ℕ) (bytes rest : List ℕ) (i : Insn) (is : List Insn) (later : List ℕ) → pc + (length bytes - length rest) ≡ next → InsnFound pool major pcs pc bytes rest i → SpellsFrom pool major pcs next rest is later → SpellsFrom pool major pcs pc bytes (i ∷ is) (pc ∷ later)
one_from pool major pcs pc next bytes rest i is later follows one others =
    let size : length bytes ≡ length one.first + length rest = ap length one.whole ∙ length-append one.first rest in
    let same : next ≡ pc + length one.first = omega arith in
    (one.first, rest, later, one.whole, refl, one.spells, subst (λ (n : ℕ). SpellsFrom pool major pcs n rest is later) same others)

-- The bytes after an instruction that was read are fewer.
found_below : (pool : List Constant) (major : ℕ) (pcs : List ℕ) (pc : ℕ) (bytes rest : List ℕ) (i : Insn) → InsnFound pool major pcs pc bytes rest i → length rest < length bytes
found_below pool major pcs pc bytes rest i one =
    let takes : 0 < length one.first = insn_takes pool major pcs pc one.first i one.spells in
    let size : length bytes ≡ length one.first + length rest = ap length one.whole ∙ length-append one.first rest in
    omega arith

none_found : (pool : List Constant) (major : ℕ) (pcs : List ℕ) (pc : ℕ) (found : List InsnAtByte) (is : List Insn) → ◌≡◌ {A = Result (List InsnAtByte) ClassFault} (Ok []) (Ok found) → insns_with_places pcs found ≡ Ok is → SpellsFrom pool major pcs pc [] is (starts found)
none_found pool major pcs pc [] [] h placed = (refl, refl)
none_found pool major pcs pc [] (i ∷ is) h placed = absurd cc
none_found pool major pcs pc (p ∷ found) is h placed = absurd cc

-- The list that was found, and the instructions of it.
moved : (pool : List Constant) (major : ℕ) (pcs : List ℕ) (pc : ℕ) (bytes : List ℕ) (was is : List Insn) (begun : List InsnAtByte) (found : List InsnAtByte) → is ≡ was → begun ≡ found → SpellsFrom pool major pcs pc bytes was (starts begun) → SpellsFrom pool major pcs pc bytes is (starts found)
moved pool major pcs pc bytes was is begun found e f spells = subst (λ (ps : List InsnAtByte). SpellsFrom pool major pcs pc bytes is (starts ps)) f (subst (λ (js : List Insn). SpellsFrom pool major pcs pc bytes js (starts begun)) (sym e) spells)

from_found : (most : ℕ) (pool : List Constant) (major : ℕ) (pcs : List ℕ) (pc : ℕ) (bytes : List ℕ) (found : List InsnAtByte) (is : List Insn) → length bytes ≤ most → IsBytes bytes → insns_at_bytes_from most pool major pc bytes ≡ Ok found → insns_with_places pcs found ≡ Ok is → SpellsFrom pool major pcs pc bytes is (starts found)
unfolding insns_at_bytes_from
from_found zero pool major pcs pc [] found is enough are h placed = none_found pool major pcs pc found is h placed
from_found (suc most) pool major pcs pc [] found is enough are h placed = none_found pool major pcs pc found is h placed
from_found zero pool major pcs pc (b ∷ bytes) found is enough are h placed = absurd (omega arith)
from_found (suc most) pool major pcs pc (b ∷ bytes) found is enough are h placed =
    let i = step (insn_at pool major pc (b ∷ bytes)) _ found h in
    let next = pc + (length (b ∷ bytes) - length i.value.1) in
    let others = step (insns_at_bytes_from most pool major next i.value.1) _ found i.goes in
    let here : InsnAtByte = record { pc = pc; insn = i.value.0 } in
    let all : here ∷ others.value ≡ found = cc (others.goes) in
    let both = joined (present (with_places pcs i.value.0) (fault.Target pc)) (insns_with_places pcs others.value) is (ap (λ (ps : List InsnAtByte). insns_with_places pcs ps) all ∙ placed) in
    let one = insn_or_fault pool major pcs pc (b ∷ bytes) i.value.1 i.value.0 both.head are i.is (present_is (with_places pcs i.value.0) (fault.Target pc) both.head both.first_is) in
    let below : length i.value.1 < length (b ∷ bytes) = found_below pool major pcs pc (b ∷ bytes) i.value.1 both.head one in
    let later = from_found most pool major pcs next i.value.1 others.value both.tail (omega arith) one.are others.is both.others_are in
    moved pool major pcs pc (b ∷ bytes) (both.head ∷ both.tail) is (here ∷ others.value) found both.gives all (one_from pool major pcs pc next (b ∷ bytes) i.value.1 both.head both.tail (starts others.value) refl one later)

-- Bytes that are read as instructions spell those.
pub read_insns_are_spelled : (pool : List Constant) (major : ℕ) (code : List ℕ) (is : List Insn) (pcs : List ℕ) → IsBytes code → insns_of pool major code ≡ Ok (pcs, is) → SpellsInsns pool major pcs code is
unfolding insns_of
read_insns_are_spelled pool major code is pcs are h =
    let found = step (insns_at_bytes pool major code) _ (pcs, is) h in
    let all = step (insns_with_places (starts found.value) found.value) _ (pcs, is) found.goes in
    let parts = read_parts (starts found.value) pcs all.value is all.goes in
    let spells = from_found (length code) pool major (starts found.value) 0 code found.value all.value (omega arith) are found.is all.is in
    ended_at pool major code (starts found.value) pcs all.value is parts.0 parts.1 spells
  where
    ended_at : (pool : List Constant) (major : ℕ) (code pcs qs : List ℕ) (is js : List Insn) → pcs ≡ qs → is ≡ js → SpellsFrom pool major pcs 0 code is pcs → SpellsInsns pool major qs code js
    ended_at pool major code pcs qs is js e f spells = subst (λ (ks : List Insn). SpellsInsns pool major qs code ks) f (subst (λ (ps : List ℕ). SpellsInsns pool major ps code is) e spells)
