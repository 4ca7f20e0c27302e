-- Members of lists.
use Rattle.std.proofs.Common.{◌≡◌, List, [], ◌∷◌, ◌++◌, map, ◌⊎◌, inl, inr, ⊎_elim, ap, refl}
use Rattle.velodrome.specs.Cycles.{IsIn}

pub in_front : {X : Type 0} (x : X) (xs ys : List X) → IsIn x xs → IsIn x (xs ++ ys)
in_front x [] ys in_xs = absurd in_xs
in_front x (z ∷ xs) ys (inl same) = inl same
in_front x (z ∷ xs) ys (inr more) = inr (in_front x xs ys more)

pub in_back : {X : Type 0} (x : X) (xs ys : List X) → IsIn x ys → IsIn x (xs ++ ys)
in_back x [] ys in_ys = in_ys
in_back x (z ∷ xs) ys in_ys = inr (in_back x xs ys in_ys)

pub in_either : {X : Type 0} (x : X) (xs ys : List X) → IsIn x (xs ++ ys) → IsIn x xs ⊎ IsIn x ys
in_either x [] ys in_both = inr in_both
in_either x (z ∷ xs) ys (inl same) = inl (inl same)
in_either x (z ∷ xs) ys (inr more) = ⊎_elim (λ front. inl (inr front)) (λ back. inr back) (in_either x xs ys more)

-- A member has its image in a mapped list, and each of its members is that of one.
pub in_map : {X Y : Type 0} (f : X → Y) (x : X) (xs : List X) → IsIn x xs → IsIn (f x) (map f xs)
in_map f x [] in_xs = absurd in_xs
in_map f x (y ∷ ys) (inl same) = inl (ap f same)
in_map f x (y ∷ ys) (inr more) = inr (in_map f x ys more)

pub of_map : {X Y : Type 0} (f : X → Y) (y : Y) (xs : List X) → IsIn y (map f xs) → (x : X) × IsIn x xs × (y ≡ f x)
of_map f y [] in_images = absurd in_images
of_map f y (x ∷ xs) (inl same) = (x, inl refl, same)
of_map f y (x ∷ xs) (inr more) = let rest = of_map f y xs more in (rest.0, inr rest.1, rest.2)
