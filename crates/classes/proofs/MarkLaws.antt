-- Marks of numbers, one by one.
use Rattle.std.proofs.Common.{◌≡◌, ℕ, zero, suc, ◌+◌, ◌*◌, ◌/◌, ◌%◌, ◌^◌, ◌<◌, Bool, true, false, ◌||◌, eqb, List, [], ◌∷◌, length, get_or, set, take, refl, sym, ap, ◌∙◌, ⊎_elim, arith, w64}
use Rattle.std.specs.Int.{bit_at}
use Rattle.std.specs.Int.RustNames.{bit_or}
use Rattle.std.proofs.Math.ListN.{replicate}
use Rattle.std.proofs.lemmas.Bool.{cases_eq}
use Rattle.std.proofs.lemmas.Bool.Decides.{nat_tests}
use Rattle.std.proofs.lemmas.List.{get_or-set_same, get_or-set_other, take_more}
use Rattle.std.proofs.lemmas.List.Folds.{list_any-append}
use Rattle.std.proofs.lemmas.Nat.Bits.{bit_at-zero, bit_at_set_same, bit_at_set_other}
use Rattle.std.proofs.lemmas.Option.{unwrap_or-slice_get}
use Rattle.classes.specs.Marks.{is_in, is_marked}

-- A mark is the bit of a number.
read : (marks : List ℕ) (n : ℕ) → is_marked marks n ≡ eqb (bit_at (get_or marks (n / 64) 0) (n % 64)) 1
read marks n = ap (λ w. eqb (bit_at w (n % 64)) 1) (unwrap_or-slice_get marks (n / 64) 0)

zeros : (m k : ℕ) → get_or {A = ℕ} (replicate m 0) k 0 ≡ 0
zeros zero k = refl
zeros (suc m) zero = refl
zeros (suc m) (suc k) = zeros m k

-- Words of 0 mark nothing.
pub none_marked : (m n : ℕ) → is_marked (replicate m 0) n ≡ false
none_marked m n =
    read (replicate m 0) n ∙ ap (λ w. eqb (bit_at w (n % 64)) 1) (zeros m (n / 64)) ∙ ap (λ b. eqb b 1) (bit_at-zero (n % 64))

itself : (n class : ℕ) (b : Bool) → n ≡ class → true ≡ (eqb n class || b)
itself n class b same = let e : eqb n class ≡ true = grind (arith, nat_tests) in rw e refl

another : (n class : ℕ) (b : Bool) → (n ≡ class → ⊥) → b ≡ (eqb n class || b)
another n class b other = let e : eqb n class ≡ false = grind (arith, nat_tests) in rw e refl

same_number : (n class : ℕ) → n / 64 ≡ class / 64 → n % 64 ≡ class % 64 → n ≡ class
same_number n class words bits = omega arith

-- The marks after one more mark.
pub one_mark : (marks : List ℕ) (class n : ℕ) → class / 64 < length marks
    → is_marked (set marks (class / 64) (bit_or (get_or marks (class / 64) 0) (1 * 2 ^ (class % 64) % 18446744073709551616))) n ≡ (eqb n class || is_marked marks n)
one_mark marks class n within =
    let word = bit_or (get_or marks (class / 64) 0) (1 * 2 ^ (class % 64) % 18446744073709551616) in
    ⊎_elim
    (λ (here : n / 64 ≡ class / 64).
    let changed : get_or (set marks (class / 64) word) (n / 64) 0 ≡ word = ap (λ k. get_or (set marks (class / 64) word) k 0) here ∙ get_or-set_same marks (class / 64) word 0 within in
    ⊎_elim
    (λ (it : n % 64 ≡ class % 64).
    read (set marks (class / 64) word) n ∙ ap (λ w. eqb (bit_at w (n % 64)) 1) changed ∙ ap (λ k. eqb (bit_at word k) 1) it
    ∙ ap (λ b. eqb b 1) (bit_at_set_same w64 (get_or marks (class / 64) 0) (class % 64) (omega arith))
    ∙ itself n class (is_marked marks n) (same_number n class here it))
    (λ (other : n % 64 ≡ class % 64 → ⊥).
    read (set marks (class / 64) word) n ∙ ap (λ w. eqb (bit_at w (n % 64)) 1) changed
    ∙ ap (λ b. eqb b 1) (bit_at_set_other w64 (get_or marks (class / 64) 0) (class % 64) (omega arith) (n % 64) other)
    ∙ ap (λ k. eqb (bit_at (get_or marks k 0) (n % 64)) 1) (sym here) ∙ sym (read marks n)
    ∙ another n class (is_marked marks n) (λ same. other (ap (λ k. k % 64) same)))
    (cases_eq (n % 64) (class % 64)))
    (λ (elsewhere : n / 64 ≡ class / 64 → ⊥).
    read (set marks (class / 64) word) n ∙ ap (λ w. eqb (bit_at w (n % 64)) 1) (get_or-set_other marks (class / 64) (n / 64) word 0 elsewhere) ∙ sym (read marks n)
    ∙ another n class (is_marked marks n) (λ same. elsewhere (ap (λ k. k / 64) same)))
    (cases_eq (n / 64) (class / 64))

or_last : (a b c : Bool) → (a || (b || c)) ≡ ((b || (a || false)) || c)
or_last true true c = refl
or_last true false c = refl
or_last false true c = refl
or_last false false c = refl

-- The marks after one more mark of a list.
pub mark_more : (classes : List ℕ) (i class n : ℕ) (before now first : Bool) → i < length classes → get_or classes i 0 ≡ class
    → now ≡ (eqb n class || before) → before ≡ (is_in (take i classes) n || first) → now ≡ (is_in (take (i + 1) classes) n || first)
mark_more classes i class n before now first within is marked are =
    rw (take_more classes i 0 within)
    (rw (list_any-append (eqb n) (take i classes) (get_or classes i 0 ∷ []))
    (rw is (marked ∙ ap (λ b. eqb n class || b) are ∙ or_last (eqb n class) (is_in (take i classes) n) first)))
