-- Properties of all elements of a list, and of the element at an index.
use Rattle.std.proofs.Common.{◌≡◌, ℕ, zero, suc, ◌+◌, cond, Bool, List, [], ◌∷◌, ◌++◌, length, take, drop, replicate, map, reverse, Option, Some, None, slice_get, slice_set, unwrap_or, option_map, count_by, flat_map, refl, sym, ap, subst}
use Rattle.std.specs.List.{AllByRecursion}
use Rattle.std.proofs.lemmas.List.{reverse-append}
use Rattle.std.proofs.lemmas.Option.{none-some, same_Some}
use Rattle.std.proofs.lemmas.List.Sums.{sum_by-cons}

-- A consequence of a property of each element is a property of all elements.
pub all_weaker : {X : Type 0} (P Q : X → Type 0) → ((x : X) → P x → Q x) → (xs : List X) → AllByRecursion P xs → AllByRecursion Q xs
all_weaker P Q step [] all = tt
all_weaker P Q step (x ∷ xs) all = (step x all.0, all_weaker P Q step xs all.1)

-- A consequence of two properties of each element is a property of all elements.
pub all_both : {X : Type 0} (P Q R : X → Type 0) → ((x : X) → P x → Q x → R x) → (xs : List X) → AllByRecursion P xs → AllByRecursion Q xs → AllByRecursion R xs
all_both P Q R step [] first second = tt
all_both P Q R step (x ∷ xs) first second = (step x first.0 second.0, all_both P Q R step xs first.1 second.1)

-- A property of all elements and of one more is kept when that one is written into the list.
pub all_set : {X : Type 0} (P : X → Type 0) (xs : List X) (i : ℕ) (x : X) → P x → AllByRecursion P xs → AllByRecursion P (slice_set xs i x)
all_set P [] i x holds all = tt
all_set P (y ∷ ys) zero x holds all = (holds, all.1)
all_set P (y ∷ ys) (suc i) x holds all = (all.0, all_set P ys i x holds all.1)

-- A property of all elements is one of the element at an index.
pub all_at : {X : Type 0} (P : X → Type 0) (xs : List X) (i : ℕ) (x : X) → slice_get xs i ≡ Some x → AllByRecursion P xs → P x
all_at P [] i x is all = absurd (none-some x is)
all_at P (y ∷ ys) zero x is all = subst P (same_Some y x is) all.0
all_at P (y ∷ ys) (suc i) x is all = all_at P ys i x is all.1

-- A property of all elements and of a default is one of the element that is read at an index.
pub all_read : {X : Type 0} (P : X → Type 0) (xs : List X) (i : ℕ) (default : X) → P default → AllByRecursion P xs → P (unwrap_or (slice_get xs i) default)
all_read P [] i default holds all = holds
all_read P (y ∷ ys) zero default holds all = all.0
all_read P (y ∷ ys) (suc i) default holds all = all_read P ys i default holds all.1

-- A property of all elements of two lists is one of those of the joined list.
pub all_append : {X : Type 0} (P : X → Type 0) (xs ys : List X) → AllByRecursion P xs → AllByRecursion P ys → AllByRecursion P (xs ++ ys)
all_append P [] ys first second = second
all_append P (x ∷ xs) ys first second = (first.0, all_append P xs ys first.1 second)

-- A property of an element is one of all elements of the list that repeats it.
pub all_replicate : {X : Type 0} (P : X → Type 0) (n : ℕ) (x : X) → P x → AllByRecursion P (replicate n x)
all_replicate P zero x holds = tt
all_replicate P (suc n) x holds = (holds, all_replicate P n x holds)

-- A property of every image is one of all elements of a mapped list.
pub all_map : {X Y : Type 0} (P : Y → Type 0) (f : X → Y) → ((x : X) → P (f x)) → (xs : List X) → AllByRecursion P (map f xs)
all_map P f each [] = tt
all_map P f each (x ∷ xs) = (each x, all_map P f each xs)

-- A property of each image, by one of its element, is a property of all elements of a mapped list.
pub all_map_weaker : {X Y : Type 0} (P : X → Type 0) (Q : Y → Type 0) (f : X → Y) → ((x : X) → P x → Q (f x)) → (xs : List X) → AllByRecursion P xs → AllByRecursion Q (map f xs)
all_map_weaker P Q f step [] all = tt
all_map_weaker P Q f step (x ∷ xs) all = (step x all.0, all_map_weaker P Q f step xs all.1)

-- A property of the elements of each part is one of those of all parts.
pub all_flat_map : {X Y : Type 0} (P : Y → Type 0) (f : X → List Y) → ((x : X) → AllByRecursion P (f x)) → (xs : List X) → AllByRecursion P (flat_map f xs)
all_flat_map P f each [] = tt
all_flat_map P f each (x ∷ xs) = all_append P (f x) (flat_map f xs) (each x) (all_flat_map P f each xs)

-- An index that was written has the written element, if it is within the list.
pub get_set_same : {X : Type 0} (xs : List X) (i : ℕ) (was x : X) → slice_get xs i ≡ Some was → slice_get (slice_set xs i x) i ≡ Some x
get_set_same [] i was x is = absurd (none-some was is)
get_set_same (y ∷ ys) zero was x is = refl
get_set_same (y ∷ ys) (suc i) was x is = get_set_same ys i was x is

-- An index that wasn't written is unchanged.
pub get_set_other : {X : Type 0} (xs : List X) (i j : ℕ) (x : X) → (j ≡ i → ⊥) → slice_get (slice_set xs i x) j ≡ slice_get xs j
get_set_other [] i j x other = refl
get_set_other (y ∷ ys) zero zero x other = absurd (other refl)
get_set_other (y ∷ ys) zero (suc j) x other = refl
get_set_other (y ∷ ys) (suc i) zero x other = refl
get_set_other (y ∷ ys) (suc i) (suc j) x other = get_set_other ys i j x (λ same. other (ap suc same))

-- An element that passes counts as one, any other as none.
pub count_by_cons : {X : Type 0} (test : X → Bool) (x : X) (xs : List X) → count_by test (x ∷ xs) ≡ cond (test x) 1 0 + count_by test xs
count_by_cons test x xs = sum_by-cons (λ y. cond (test y) 1 0) x xs

-- A property of all elements is one of the last ones.
pub all_drop : {X : Type 0} (P : X → Type 0) (n : ℕ) (xs : List X) → AllByRecursion P xs → AllByRecursion P (drop n xs)
all_drop P zero xs all = all
all_drop P (suc n) [] all = tt
all_drop P (suc n) (x ∷ xs) all = all_drop P n xs all.1

-- A property of all elements is one of the first ones.
pub all_take : {X : Type 0} (P : X → Type 0) (n : ℕ) (xs : List X) → AllByRecursion P xs → AllByRecursion P (take n xs)
all_take P zero xs all = tt
all_take P (suc n) [] all = tt
all_take P (suc n) (x ∷ xs) all = (all.0, all_take P n xs all.1)

-- A property of all elements is one of those of the reversed list.
pub all_reverse : {X : Type 0} (P : X → Type 0) (xs : List X) → AllByRecursion P xs → AllByRecursion P (reverse xs)
all_reverse P [] all = tt
all_reverse P (x ∷ xs) all = subst (AllByRecursion P) (sym (reverse-append (x ∷ []) xs)) (all_append P (reverse xs) (x ∷ []) (all_reverse P xs all.1) (all.0, tt))

-- An element at an index is at the same index of a longer list.
pub appended_within : {X : Type 0} (xs ys : List X) (i : ℕ) (x : X) → slice_get xs i ≡ Some x → slice_get (xs ++ ys) i ≡ Some x
appended_within [] ys i x is = absurd (none-some x is)
appended_within (y ∷ xs) ys zero x is = is
appended_within (y ∷ xs) ys (suc i) x is = appended_within xs ys i x is

-- An appended element is at the index that was the list's length.
pub appended_at : {X : Type 0} (xs : List X) (x : X) → slice_get (xs ++ x ∷ []) (length xs) ≡ Some x
appended_at [] x = refl
appended_at (y ∷ xs) x = appended_at xs x

-- The value of a mapped option is the image of the option's value.
pub option_map_some : {A B P : Type 0} (f : A → B) (o : Option A) (y : B) → option_map f o ≡ Some y → ((x : A) → o ≡ Some x → f x ≡ y → P) → P
option_map_some f None y is next = absurd (none-some y is)
option_map_some f (Some x) y is next = next x refl (same_Some (f x) y is)
