-- Lists whose items are read one after another. The items that were read come before those that are left to read.
use Rattle.std.proofs.Common.{◌≡◌, ℕ, List, [], ◌∷◌, ◌++◌, refl, ap, append_assoc}
use Rattle.std.specs.Prelude.{Result, Ok, Err}
use Rattle.jvms_file.specs.Results.{◌>>=◌}

-- Items put before the list that a reading gives.
abbrev pub with_front : {A E : Type 0} → List A → Result (List A × List ℕ) E → Result (List A × List ℕ) E
with_front front (Ok x) = Ok (front ++ x.0, x.1)
with_front front (Err e) = Err e

-- Before anything was read the front is empty.
pub with_front-nil : {A E : Type 0} (r : Result (List A × List ℕ) E) → with_front [] r ≡ r
with_front-nil (Ok x) = refl
with_front-nil (Err e) = refl

-- Two fronts, one after the other, are one front.
pub with_front-append : {A E : Type 0} (f g : List A) (r : Result (List A × List ℕ) E) → with_front (f ++ g) r ≡ with_front f (with_front g r)
with_front-append f g (Ok x) = ap (λ xs. Ok (xs, x.1)) (append_assoc f g x.0)
with_front-append f g (Err e) = refl

-- A front of one item is that item, followed by the others.
pub with_front-cons : {A E : Type 0} (a : A) (r : Result (List A × List ℕ) E) → with_front (a ∷ []) r ≡ (r >>= λ x. Ok (a ∷ x.0, x.1))
with_front-cons a (Ok x) = refl
with_front-cons a (Err e) = refl
