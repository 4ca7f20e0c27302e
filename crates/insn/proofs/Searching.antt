-- The place of a number among rising ones.
use Rattle.std.proofs.Common.{◌≡◌, ℕ, ◌≤◌, ◌<◌, true, false, List, length, get_or, Some, None, refl, arith}
use Rattle.std.specs.Prelude.{◌==◌, nat_lt}
use Rattle.std.specs.List.{position_or_len}
use Rattle.std.proofs.lemmas.List.Sums.{position_or_len_is}
use Rattle.std.proofs.lemmas.Bool.{ne_eqb, eq-eqb, lt-ltb, le-ltb, cases_lt}
use Rattle.std.proofs.Common.{◌⊎◌, inl, inr}
use Rattle.jvms_file.specs.Code.{place_of}
use Rattle.insn.specs.Places.{IsStarts}

pub never_falls : (pcs : List ℕ) → IsStarts pcs → (i j : ℕ) → i ≤ j → j < length pcs → get_or pcs i 0 ≤ get_or pcs j 0
never_falls pcs s i j le lt = grind (arith, s.rising i j)

differs : (q pc : ℕ) → q < pc → (q == pc) ≡ false
differs q pc h = ne_eqb q pc (λ e. omega arith)

differs_above : (q pc : ℕ) → pc < q → (q == pc) ≡ false
differs_above q pc h = ne_eqb q pc (λ e. omega arith)

same : (q pc : ℕ) → q ≡ pc → (q == pc) ≡ true
same q pc h = eq-eqb q pc h

pub at_place : (pcs : List ℕ) (pc i : ℕ) → IsStarts pcs → i < length pcs → get_or pcs i 0 ≡ pc → Some i ≡ place_of pcs pc
at_place pcs pc i s lt e =
    let p : position_or_len (λ q. q == pc) pcs ≡ i =
    position_or_len_is (λ q. q == pc) pcs i 0 (omega arith) (λ k h. let r : get_or pcs k 0 < get_or pcs i 0 = s.rising k i h lt in differs (get_or pcs k 0) pc (omega arith)) (λ h. same (get_or pcs i 0) pc e) in
    let r : nat_lt i (length pcs) ≡ true = lt-ltb i (length pcs) lt in
    rw (p, r) refl

pub at_none : (pcs : List ℕ) (pc i : ℕ) → ((k : ℕ) → k < i → get_or pcs k 0 < pc) → ((k : ℕ) → i ≤ k → k < length pcs → pc < get_or pcs k 0) → None ≡ place_of pcs pc
at_none pcs pc i before behind =
    let p : position_or_len (λ q. q == pc) pcs ≡ length pcs =
    position_or_len_is (λ q. q == pc) pcs (length pcs) 0 (omega arith) (λ k h. other k h) (λ h. absurd (omega arith)) in
    let r : nat_lt (length pcs) (length pcs) ≡ false = le-ltb (length pcs) (length pcs) (omega arith) in
    rw (p, r) refl
  where
    apart : (k : ℕ) → k < length pcs → (k < i) ⊎ (i ≤ k) → (get_or pcs k 0 == pc) ≡ false
    apart k h (inl lt) = differs (get_or pcs k 0) pc (before k lt)
    apart k h (inr le) = differs_above (get_or pcs k 0) pc (behind k le h)

    other : (k : ℕ) → k < length pcs → (get_or pcs k 0 == pc) ≡ false
    other k h = apart k h (cases_lt k i)
