-- A place of a list that is the image of another.
use Rattle.std.proofs.Common.{◌≡◌, ℕ, zero, suc, List, [], ◌∷◌, map, replicate, Some, slice_get, slice_set, refl, sym, ap}
use Rattle.std.specs.Option.{option_map}
use Rattle.std.proofs.lemmas.Option.{same_Some}

-- Storing the item of a place again changes nothing.
pub set_same : {X : Type 0} (xs : List X) (i : ℕ) (x : X) → slice_get xs i ≡ Some x → slice_set xs i x ≡ xs
set_same [] i x is = refl
set_same (y ∷ xs) zero x is = ap (λ z. z ∷ xs) (sym (same_Some y x is))
set_same (y ∷ xs) (suc i) x is = ap (λ l. y ∷ l) (set_same xs i x is)

module _ {X Y : Type 0} (f : X → Y) where
  pub get_map : (xs : List X) (i : ℕ) → slice_get (map f xs) i ≡ option_map f (slice_get xs i)
  get_map [] i = refl
  get_map (x ∷ xs) zero = refl
  get_map (x ∷ xs) (suc i) = get_map xs i

  pub set_map : (xs : List X) (i : ℕ) (x : X) → slice_set (map f xs) i (f x) ≡ map f (slice_set xs i x)
  set_map [] i x = refl
  set_map (y ∷ xs) zero x = refl
  set_map (y ∷ xs) (suc i) x = ap (λ l. f y ∷ l) (set_map xs i x)

  pub map_replicate : (n : ℕ) (x : X) → map f (replicate n x) ≡ replicate n (f x)
  map_replicate zero x = refl
  map_replicate (suc n) x = ap (λ l. f x ∷ l) (map_replicate n x)
