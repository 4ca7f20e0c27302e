-- A list is split at the first of a byte, by the place of that byte.
use Rattle.std.proofs.Common.{◌≡◌, ℕ, zero, suc, ◌+◌, ◌-◌, ◌<◌, ◌==◌, true, false, inl, inr, List, [], ◌∷◌, length, take, drop, Some, None, refl, ap, arith}
use Rattle.std.specs.Prelude.{slice_index}
use Rattle.std.proofs.lemmas.Bool.{or_from, eqb-true, cases_Bool}
use Rattle.std.proofs.lemmas.List.{take_rest}
use Rattle.memchr.specs.Find.{IsFirstByte, is_byte}
use Rattle.escapes.specs.Cuts.{has, IsCut}

other_head : (b x : ℕ) → ((x == b) ≡ true → ⊥) → (x == b) ≡ false
other_head b x differs = elim (cases_Bool (x == b)) [ inl is ↦ absurd (differs is) | inr other ↦ other ]

-- None of the first n bytes is the byte.
abbrev NoneBelow : ℕ → List ℕ → ℕ → Type 0
NoneBelow b xs n = (i : ℕ) → i < n → (slice_index xs i == b) ≡ true → ⊥

none_cut : (b : ℕ) (xs : List ℕ) → NoneBelow b xs (length xs) → has b xs ≡ false
none_cut b [] none = refl
none_cut b (x ∷ xs) none =
    or_from (x == b) (has b xs) (other_head b x (none 0 (omega arith))) (none_cut b xs (λ i less. none (suc i) (omega arith)))

first_cut : (b k : ℕ) (xs : List ℕ) → NoneBelow b xs k → (slice_index xs k == b) ≡ true → k < length xs → IsCut b xs (Some (take k xs, drop (suc k) xs))
first_cut b k [] none here less = absurd (omega arith)
first_cut b zero (x ∷ xs) none here less = (ap (λ y. y ∷ xs) (eqb-true x b here), refl)
first_cut b (suc k) (x ∷ xs) none here less =
    let more = first_cut b k xs (λ i low. none (suc i) (omega arith)) here (omega arith) in
    (ap (λ l. x ∷ l) more.0, or_from (x == b) (has b (take k xs)) (other_head b x (none 0 (omega arith))) more.1)

pub cut_none : (b : ℕ) (xs : List ℕ) → IsFirstByte (is_byte b) xs None → IsCut b xs None
cut_none b xs none = none_cut b xs (λ i less is. none i (omega arith) less is)

pub cut_first : (b place : ℕ) (xs : List ℕ) → IsFirstByte (is_byte b) xs (Some place)
    → IsCut b xs (Some (take place xs, take (length xs - (place + 1)) (drop (place + 1) xs)))
cut_first b place xs first =
    let next : place + 1 ≡ suc place = omega arith in
    rw (take_rest xs (place + 1), next) (first_cut b place xs (λ i less is. first.0.before i (omega arith) less is) first.1 first.0.high)
