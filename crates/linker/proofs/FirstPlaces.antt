-- The first place that passes a test, found in one pass over a list.
use Rattle.std.proofs.Common.{◌≡◌, ℕ, zero, suc, ◌+◌, ◌<◌, ◌≤◌, Bool, true, false, ◌||◌, List, [], ◌∷◌, length, get_or, take, Some, None, refl, sym, ap, ◌∙◌, arith}
use Rattle.std.specs.List.{list_any, position, position_from}
use Rattle.std.proofs.lemmas.Iterator.Adapters.{position_from-zero}
use Rattle.std.proofs.lemmas.List.{take_all}

neither : (a b : Bool) → (a || b) ≡ false → (a ≡ false) × (b ≡ false)
neither true b none = absurd cc
neither false b none = (refl, none)

module _ {X : Type 0} (p : X → Bool) where
  first_from : (a i : ℕ) (xs : List X) (x : X) → i < length xs → x ≡ get_or xs i x → list_any p (take i xs) ≡ false → p x ≡ true → position_from p a xs ≡ Some (a + i)
  first_from a i [] x within there none passes = absurd (omega arith)
  first_from a zero (y ∷ xs) x within there none passes =
      let e : a ≡ a + 0 = omega arith in
      let it : p y ≡ true = ap p (sym there) ∙ passes in
      rw it (ap (λ n. Some n) e)
  first_from a (suc i) (y ∷ xs) x within there none passes =
      let parts = neither (p y) (list_any p (take i xs)) none in
      let e : a + 1 + i ≡ a + suc i = omega arith in
      rw parts.0 (first_from (a + 1) i xs x (omega arith) there parts.1 passes ∙ ap (λ n. Some n) e)

  nowhere_from : (a : ℕ) (xs : List X) → list_any p xs ≡ false → position_from p a xs ≡ None
  nowhere_from a [] none = refl
  nowhere_from a (y ∷ xs) none = let parts = neither (p y) (list_any p xs) none in rw parts.0 (nowhere_from (a + 1) xs parts.1)

  pub first_place : (xs : List X) (i : ℕ) (x : X) → i < length xs → x ≡ get_or xs i x → list_any p (take i xs) ≡ false → p x ≡ true → Some i ≡ position p xs
  first_place xs i x within there none passes =
      let e : 0 + i ≡ i = omega arith in sym (position_from-zero p xs ∙ first_from 0 i xs x within there none passes ∙ ap (λ n. Some n) e)

  pub no_place : (xs : List X) (i : ℕ) → length xs ≤ i → list_any p (take i xs) ≡ false → None ≡ position p xs
  no_place xs i whole none = sym (position_from-zero p xs ∙ nowhere_from 0 xs (ap (list_any p) (sym (take_all i xs whole)) ∙ none))
