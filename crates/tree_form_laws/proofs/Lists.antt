-- Proves properties of lists made of elements that bytes spell.
use Rattle.std.proofs.Common.{◌≡◌, ℕ, Bool, List, [], ◌∷◌, ◌++◌, map, Result, Ok, refl, sym, ◌∙◌, subst}
use Rattle.std.specs.List.{AllByRecursion, AllZip, list_any}
use Rattle.jvms_file.specs.Results.{results_of}
use Rattle.jvms_file.specs.Spelling.{InOrder, IsDistinctBy}
use Rattle.classfile_laws.proofs.Steps.{step}
use Rattle.tree_form_laws.proofs.Steps.{same_Ok}

-- ---- All elements of a list

pub all_push : {A : Type 0} (P : A → Type 0) (xs ys : List A) → AllByRecursion P xs → AllByRecursion P ys → AllByRecursion P (xs ++ ys)
all_push P [] ys are more = more
all_push P (x ∷ xs) ys are more = (are.0, all_push P xs ys are.1 more)

pub all_of : {A : Type 0} (P : A → Type 0) → ((x : A) → P x) → (xs : List A) → AllByRecursion P xs
all_of P f [] = tt
all_of P f (x ∷ xs) = (f x, all_of P f xs)

-- All mapped elements have a property that each mapped value has.
pub all_made : {A B : Type 0} (P : B → Type 0) (f : A → B) → ((x : A) → P (f x)) → (xs : List A) → AllByRecursion P (map f xs)
all_made P f each [] = tt
all_made P f each (x ∷ xs) = (each x, all_made P f each xs)

-- All mapped elements have a property, if each that bytes spell has it.
pub all_spelled : {A B : Type 0} (P : List ℕ → A → Type 0) (Q : B → Type 0) (f : A → B) → ((bytes : List ℕ) (x : A) → P bytes x → Q (f x))
    → (bytes : List ℕ) (xs : List A) → InOrder P bytes xs → AllByRecursion Q (map f xs)
all_spelled P Q f each bytes [] are = tt
all_spelled P Q f each bytes (x ∷ xs) are = (each are.0 x are.3, all_spelled P Q f each are.1 xs are.4)

-- ---- Two lists, element by element

pub zip_all : {A B : Type 0} (R : A → B → Type 0) (P : B → Type 0) → ((x : A) (y : B) → R x y → P y)
    → (xs : List A) (ys : List B) → AllZip R xs ys → AllByRecursion P ys
zip_all R P f [] [] are = tt
zip_all R P f (x ∷ xs) (y ∷ ys) are = (f x y are.0, zip_all R P f xs ys are.1)
zip_all R P f [] (y ∷ ys) are = absurd are
zip_all R P f (x ∷ xs) [] are = absurd are

any_as : {A B : Type 0} (R : A → B → Type 0) (f : A → Bool) (g : B → Bool) → ((x : A) (y : B) → R x y → f x ≡ g y)
    → (xs : List A) (ys : List B) → AllZip R xs ys → list_any f xs ≡ list_any g ys
any_as R f g agree [] [] are = refl
any_as R f g agree (x ∷ xs) (y ∷ ys) are = rw (agree x y are.0, any_as R f g agree xs ys are.1) refl
any_as R f g agree [] (y ∷ ys) are = absurd are
any_as R f g agree (x ∷ xs) [] are = absurd are

-- If no two elements are equal, no two of those made of them are alike.
pub distinct_as : {A B : Type 0} (R : A → B → Type 0) (same : A → A → Bool) (like : B → B → Bool)
    → ((a b : A) (x y : B) → R a x → R b y → same a b ≡ like x y)
    → (xs : List A) (ys : List B) → AllZip R xs ys → IsDistinctBy same xs → IsDistinctBy like ys
distinct_as R same like agree [] [] are distinct = tt
distinct_as R same like agree (a ∷ xs) (x ∷ ys) are distinct =
    (sym (any_as R (same a) (like x) (λ b y is. agree a b x y are.0 is) xs ys are.1) ∙ distinct.0, distinct_as R same like agree xs ys are.1 distinct.1)
distinct_as R same like agree [] (y ∷ ys) are distinct = absurd are
distinct_as R same like agree (x ∷ xs) [] are distinct = absurd are

-- The collected results of elements that bytes spell are related to the elements.
pub collected_zip : {A B E : Type 0} (P : List ℕ → A → Type 0) (f : A → Result B E) (R : A → B → Type 0) → ((bytes : List ℕ) (x : A) (y : B) → P bytes x → f x ≡ Ok y → R x y)
    → (bytes : List ℕ) (xs : List A) (ys : List B) → InOrder P bytes xs → results_of f xs ≡ Ok ys → AllZip R xs ys
collected_zip {B = B} P f R each bytes [] ys are e = subst (λ (zs : List B). AllZip R [] zs) (same_Ok {A = List B} [] ys e) tt
collected_zip {B = B} P f R each bytes (x ∷ xs) ys are e =
    step (f x) _ ys e λ y first more.
    step (results_of f xs) _ ys more λ zs others last.
    subst (λ (l : List B). AllZip R (x ∷ xs) l) (same_Ok {A = List B} (y ∷ zs) ys last) (each are.0 x y are.3 first, collected_zip P f R each are.1 xs zs are.4 others)
