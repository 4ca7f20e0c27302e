-- Members of lists.
use Rattle.std.proofs.Common.{◌≡◌, Bool, true, false, cond, List, [], ◌∷◌, ◌++◌, map, ◌⊎◌, inl, inr, ⊎_elim, refl, sym, ap, ◌∙◌, subst, true≢false}
use Rattle.std.specs.List.{AllByRecursion, filter}
use Rattle.velodrome.specs.Cycles.{IsIn}

-- What all elements have, a member has.
pub all_in : {X : Type 0} (P : X → Type 0) (xs : List X) (x : X) → AllByRecursion P xs → IsIn x xs → P x
all_in P [] x all in_xs = absurd in_xs
all_in P (y ∷ ys) x all (inl same) = subst P (sym same) all.0
all_in P (y ∷ ys) x all (inr more) = all_in P ys x all.1 more

-- What each member has, all elements have.
pub all_of_members : {X : Type 0} (P : X → Type 0) (xs : List X) → ((x : X) → IsIn x xs → P x) → AllByRecursion P xs
all_of_members P [] each = tt
all_of_members P (x ∷ xs) each = (each x (inl refl), all_of_members P xs (λ y more. each y (inr more)))

pub in_front : {X : Type 0} (x : X) (xs ys : List X) → IsIn x xs → IsIn x (xs ++ ys)
in_front x [] ys in_xs = absurd in_xs
in_front x (z ∷ xs) ys (inl same) = inl same
in_front x (z ∷ xs) ys (inr more) = inr (in_front x xs ys more)

pub in_back : {X : Type 0} (x : X) (xs ys : List X) → IsIn x ys → IsIn x (xs ++ ys)
in_back x [] ys in_ys = in_ys
in_back x (z ∷ xs) ys in_ys = inr (in_back x xs ys in_ys)

pub in_either : {X : Type 0} (x : X) (xs ys : List X) → IsIn x (xs ++ ys) → IsIn x xs ⊎ IsIn x ys
in_either x [] ys in_both = inr in_both
in_either x (z ∷ xs) ys (inl same) = inl (inl same)
in_either x (z ∷ xs) ys (inr more) = ⊎_elim (λ front. inl (inr front)) (λ back. inr back) (in_either x xs ys more)

-- A member has its image in a mapped list, and each member of that list is an image.
pub in_map : {X Y : Type 0} (f : X → Y) (x : X) (xs : List X) → IsIn x xs → IsIn (f x) (map f xs)
in_map f x [] in_xs = absurd in_xs
in_map f x (y ∷ ys) (inl same) = inl (ap f same)
in_map f x (y ∷ ys) (inr more) = inr (in_map f x ys more)

pub of_map : {X Y : Type 0} (f : X → Y) (y : Y) (xs : List X) → IsIn y (map f xs) → (x : X) × IsIn x xs × (f x ≡ y)
of_map f y [] in_images = absurd in_images
of_map f y (x ∷ xs) (inl same) = (x, inl refl, sym same)
of_map f y (x ∷ xs) (inr more) = let rest = of_map f y xs more in (rest.0, inr rest.1, rest.2)

-- Members that pass a test are members of the filtered list.
kept_by : {X : Type 0} (test : X → Bool) (b : Bool) (x y : X) (ys : List X) → test y ≡ b → test x ≡ true → (IsIn x ys → IsIn x (filter test ys)) → IsIn x (y ∷ ys) → IsIn x (cond b (y ∷ filter test ys) (filter test ys))
kept_by test true x y ys is passes more (inl same) = inl same
kept_by test true x y ys is passes more (inr rest) = inr (more rest)
kept_by test false x y ys is passes more (inl same) = absurd (true≢false (sym passes ∙ ap test same ∙ is))
kept_by test false x y ys is passes more (inr rest) = more rest

pub in_filter : {X : Type 0} (test : X → Bool) (x : X) (xs : List X) → test x ≡ true → IsIn x xs → IsIn x (filter test xs)
in_filter test x [] passes in_xs = in_xs
in_filter test x (y ∷ ys) passes in_xs = kept_by test (test y) x y ys refl passes (in_filter test x ys passes) in_xs

of_kept : {X : Type 0} (test : X → Bool) (b : Bool) (x y : X) (ys : List X) → test y ≡ b → (IsIn x (filter test ys) → IsIn x ys × (test x ≡ true)) → IsIn x (cond b (y ∷ filter test ys) (filter test ys)) → IsIn x (y ∷ ys) × (test x ≡ true)
of_kept test true x y ys is more (inl same) = (inl same, ap test same ∙ is)
of_kept test true x y ys is more (inr rest) = let found = more rest in (inr found.0, found.1)
of_kept test false x y ys is more rest = let found = more rest in (inr found.0, found.1)

pub of_filter : {X : Type 0} (test : X → Bool) (x : X) (xs : List X) → IsIn x (filter test xs) → IsIn x xs × (test x ≡ true)
of_filter test x [] in_kept = absurd in_kept
of_filter test x (y ∷ ys) in_kept = of_kept test (test y) x y ys refl (of_filter test x ys) in_kept
