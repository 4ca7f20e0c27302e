-- What holds of one of the parts, or of all of them.
use Rattle.std.proofs.Common.{◌≡◌, ℕ, suc, ◌+◌, ◌<◌, List, [], ◌∷◌, ◌++◌, Any, Some, get_or, length, take, refl, sym, ap, ◌∙◌, arith, slice_get}
use Rattle.std.proofs.lemmas.List.{flat_map_more, take_more}
use Rattle.std.proofs.lemmas.Option.{get_or_from_slice_get, slice_get_within}
use Rattle.std.specs.List.{flat_map}

-- An element that was read is one of the list.
pub is_any : {X : Type 0} (P : X → Type 0) (xs : List X) (i : ℕ) (x : X) → i < length xs → x ≡ get_or xs i x → P x → Any P xs
is_any P xs i x within is here = (i, x, within, sym is, here)

pub any_here : {X : Type 0} (P : X → Type 0) (x : X) (xs : List X) → P x → Any P (x ∷ xs)
any_here P x xs here = (0, x, omega arith, refl, here)

pub any_more : {X : Type 0} (P : X → Type 0) (x : X) (xs : List X) → Any P xs → Any P (x ∷ xs)
any_more P x xs one = (suc one.0, one.1, (let within = one.2 in omega (arith, within)), one.3, one.4)

-- The first element is at place 0.
pub at_first : {X : Type 0} (xs : List X) (x : X) → slice_get xs 0 ≡ Some x → (0 < length xs) × (x ≡ get_or xs 0 x)
at_first xs x is = (slice_get_within xs 0 x is, sym (get_or_from_slice_get xs 0 x x is))

-- A line is appended to those before.
pub one_more : {X : Type 0} (f : X → List ℕ) (xs : List X) (i : ℕ) (d : X) (old new line : List ℕ) → i < length xs → old ≡ flat_map f (take i xs) → line ≡ f (get_or xs i d) → new ≡ old ++ line → new ≡ flat_map f (take (i + 1) xs)
one_more f xs i d old new line less before is appended =
    appended ∙ ap (λ l. l ++ line) before ∙ ap (λ l. flat_map f (take i xs) ++ l) is ∙ flat_map_more f [] (take i xs) (get_or xs i d) ∙ ap (flat_map f) (sym (take_more xs i d less))
