-- Proves properties of lists whose elements mean others.
use Rattle.std.proofs.Common.{◌≡◌, ℕ, Bool, true, false, ◌||◌, List, [], ◌∷◌, map, Result, Ok, refl, sym, ap, ◌∙◌}
use Rattle.std.specs.List.{list_any, AllByRecursion}
use Rattle.jvms_file.specs.Results.{results_of}
use Rattle.jvms_file.specs.Spelling.{InOrder}
use Rattle.classfile_laws.proofs.Steps.{step}

-- Equal results without a fault have equal values.
pub same_Ok : {A E : Type 0} (x y : A) → ◌≡◌ {A = Result A E} (Ok x) (Ok y) → x ≡ y
same_Ok x y e = cc

-- Lists with equal heads and equal tails are equal.
pub same_lists : {A : Type 0} (x y : A) (xs ys : List A) → x ≡ y → xs ≡ ys → x ∷ xs ≡ y ∷ ys
same_lists x y xs ys first rest = ap (λ z. z ∷ xs) first ∙ ap (λ zs. y ∷ zs) rest

-- The collected results of a list mean what the list means, if each result does.
pub collected_means : {A B C E : Type 0} (f : A → Result B E) (denoted : B → C) (means : A → C) (P : A → Type 0) → ((x : A) (y : B) → P x → f x ≡ Ok y → denoted y ≡ means x)
    → (xs : List A) (ys : List B) → AllByRecursion P xs → results_of f xs ≡ Ok ys → map denoted ys ≡ map means xs
collected_means f denoted means P each [] ys all gives = ap (map denoted) (sym (same_Ok [] ys gives))
collected_means f denoted means P each (x ∷ xs) ys all gives =
    step (f x) _ _ gives λ y is e.
    step (results_of f xs) _ _ e λ others are last.
    ap (map denoted) (sym (same_Ok (y ∷ others) ys last))
    ∙ same_lists (denoted y) (means x) (map denoted others) (map means xs) (each x y all.0 is) (collected_means f denoted means P each xs others all.1 are)

-- All elements of a list that bytes spell have a property that follows from that.
pub each_spelled : {A : Type 0} (Q : List ℕ → A → Type 0) (P : A → Type 0) → ((bytes : List ℕ) (x : A) → Q bytes x → P x) → (bytes : List ℕ) (xs : List A) → InOrder Q bytes xs → AllByRecursion P xs
each_spelled Q P each bytes [] order = tt
each_spelled Q P each bytes (x ∷ xs) (first, rest, whole, here, behind) = (each first x here, each_spelled Q P each rest xs behind)

-- All elements of a list have a property that everything has.
pub all_hold : {A : Type 0} (P : A → Type 0) → ((x : A) → P x) → (xs : List A) → AllByRecursion P xs
all_hold P each [] = tt
all_hold P each (x ∷ xs) = (each x, all_hold P each xs)

-- All elements have a property that follows from two others.
pub all_follow : {A : Type 0} (P Q R : A → Type 0) → ((x : A) → P x → Q x → R x) → (xs : List A) → AllByRecursion P xs → AllByRecursion Q xs → AllByRecursion R xs
all_follow P Q R each [] ps qs = tt
all_follow P Q R each (x ∷ xs) ps qs = (each x ps.0 qs.0, all_follow P Q R each xs ps.1 qs.1)

-- A disjunction holds if its second part does.
either : (a b : Bool) → b ≡ true → (a || b) ≡ true
either true b is = refl
either false b is = is

first_passes : (a b : Bool) → a ≡ true → (a || b) ≡ true
first_passes true b is = refl
first_passes false b is = absurd cc

-- A test that an element passes is passed by an element of the list.
pub any_passes : {A K : Type 0} (test : K → A → Bool) (all xs : List A) → ((k : K) → list_any (test k) xs ≡ true → list_any (test k) all ≡ true)
    → AllByRecursion (λ x. (k : K) → test k x ≡ true → list_any (test k) all ≡ true) xs
any_passes test all [] within = tt
any_passes test all (x ∷ xs) within =
    ((λ k is. within k (first_passes (test k x) (list_any (test k) xs) is)), any_passes test all xs (λ k is. within k (either (test k x) (list_any (test k) xs) is)))
