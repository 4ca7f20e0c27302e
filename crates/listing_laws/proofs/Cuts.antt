-- Proves how lists are split: at the end, and at the first or the last unit that passes a test.
use Rattle.std.proofs.Common.{◌≡◌, ℕ, suc, ◌+◌, ◌-◌, ◌≤◌, ◌||◌, Bool, true, false, not, List, [], ◌∷◌, ◌++◌, length, take, drop, reverse, Some, refl, ap, ◌∙◌, append_assoc, arith}
use Rattle.std.specs.Prelude.{slice_get}
use Rattle.std.specs.List.{list_all, list_any, prefix_len, suffix_len, position_or_len, before_first, before_last, after_last}
use Rattle.std.proofs.Math.Seq.{take-append_seam, drop-append_seam, drop-append-add}
use Rattle.std.proofs.lemmas.Bool.{and_parts, or_parts}
use Rattle.std.proofs.lemmas.List.{length-append, reverse-append, length-reverse}
use Rattle.std.proofs.lemmas.List.Folds.{list_all-append}

-- ---- At the end

seam : {A : Type 0} (xs : List A) (y : A) (ys : List A) → slice_get (xs ++ y ∷ ys) (length xs) ≡ Some y
seam [] y ys = refl
seam (x ∷ xs) y ys = seam xs y ys

behind_seam : {A : Type 0} (xs : List A) (y z : A) → slice_get (xs ++ y ∷ z ∷ []) (suc (length xs)) ≡ Some z
behind_seam [] y z = refl
behind_seam (x ∷ xs) y z = behind_seam xs y z

one_less : {A : Type 0} (xs : List A) (y : A) → length (xs ++ y ∷ []) - 1 ≡ length xs
one_less xs y = let size = length-append xs (y ∷ []) in omega arith

two_less : {A : Type 0} (xs : List A) (y z : A) → length (xs ++ y ∷ z ∷ []) - 2 ≡ length xs
two_less xs y z = let size = length-append xs (y ∷ z ∷ []) in omega arith

of_two : {A : Type 0} (xs : List A) (y z : A) → length (xs ++ y ∷ z ∷ []) - 1 ≡ suc (length xs)
of_two xs y z = let size = length-append xs (y ∷ z ∷ []) in omega arith

pub at_least_two : {A : Type 0} (xs : List A) (y z : A) → 2 ≤ length (xs ++ y ∷ z ∷ [])
at_least_two xs y z = let size = length-append xs (y ∷ z ∷ []) in omega arith

pub but_last_is : {A : Type 0} (xs : List A) (y : A) → take (length (xs ++ y ∷ []) - 1) (xs ++ y ∷ []) ≡ xs
but_last_is {A} xs y = ap (λ (n : ℕ). take n (xs ++ y ∷ [])) (one_less xs y) ∙ take-append_seam xs (y ∷ [])

pub last_is : {A : Type 0} (xs : List A) (y : A) → slice_get (xs ++ y ∷ []) (length (xs ++ y ∷ []) - 1) ≡ Some y
last_is {A} xs y = ap (λ (n : ℕ). slice_get (xs ++ y ∷ []) n) (one_less xs y) ∙ seam xs y []

pub but_two_is : {A : Type 0} (xs : List A) (y z : A) → take (length (xs ++ y ∷ z ∷ []) - 2) (xs ++ y ∷ z ∷ []) ≡ xs
but_two_is {A} xs y z = ap (λ (n : ℕ). take n (xs ++ y ∷ z ∷ [])) (two_less xs y z) ∙ take-append_seam xs (y ∷ z ∷ [])

pub last_but_one_is : {A : Type 0} (xs : List A) (y z : A) → slice_get (xs ++ y ∷ z ∷ []) (length (xs ++ y ∷ z ∷ []) - 2) ≡ Some y
last_but_one_is {A} xs y z = ap (λ (n : ℕ). slice_get (xs ++ y ∷ z ∷ []) n) (two_less xs y z) ∙ seam xs y (z ∷ [])

pub last_of_two_is : {A : Type 0} (xs : List A) (y z : A) → slice_get (xs ++ y ∷ z ∷ []) (length (xs ++ y ∷ z ∷ []) - 1) ≡ Some z
last_of_two_is {A} xs y z = ap (λ (n : ℕ). slice_get (xs ++ y ∷ z ∷ []) n) (of_two xs y z) ∙ behind_seam xs y z

-- ---- At a unit that passes a test

none_passes : (p : ℕ → Bool) (xs : List ℕ) → list_any p xs ≡ false → list_all (λ x. not (p x)) xs ≡ true
none_passes p [] e = refl
none_passes p (x ∷ xs) e =
    let both = or_parts (p x) (list_any p xs) e in
    rw (both.0, none_passes p xs both.1) refl

prefix_is : (p : ℕ → Bool) (xs : List ℕ) (y : ℕ) (ys : List ℕ) → list_all (λ x. not (p x)) xs ≡ true → p y ≡ true → prefix_len (λ x. not (p x)) (xs ++ y ∷ ys) ≡ length xs
prefix_is p [] y ys none is = rw is refl
prefix_is p (x ∷ xs) y ys none is =
    let both = and_parts (not (p x)) (list_all (λ z. not (p z)) xs) none in
    let rest = prefix_is p xs y ys both.1 is in
    let next : 1 + length xs ≡ suc (length xs) = omega arith in
    rw (both.0, rest) next

-- A list is split at the first unit that passes: the units before it, and those from it on.
pub record IsCutFirst (p : ℕ → Bool) (xs : List ℕ) (y : ℕ) (ys : List ℕ) : Type 0 where
  pub before : before_first p (xs ++ y ∷ ys) ≡ xs
  pub from : drop (position_or_len p (xs ++ y ∷ ys)) (xs ++ y ∷ ys) ≡ y ∷ ys

pub cut_first : (p : ℕ → Bool) (xs : List ℕ) (y : ℕ) (ys : List ℕ) → list_any p xs ≡ false → p y ≡ true → IsCutFirst p xs y ys
cut_first p xs y ys none is =
    let place = prefix_is p xs y ys (none_passes p xs none) is in
    record {
      before = ap (λ (n : ℕ). take n (xs ++ y ∷ ys)) place ∙ take-append_seam xs (y ∷ ys);
      from = ap (λ (n : ℕ). drop n (xs ++ y ∷ ys)) place ∙ drop-append_seam xs (y ∷ ys);
    }

all_reversed : (p : ℕ → Bool) (xs : List ℕ) → list_all p xs ≡ true → list_all p (reverse xs) ≡ true
all_reversed p [] e = refl
all_reversed p (x ∷ xs) e =
    let both = and_parts (p x) (list_all p xs) e in
    rw (reverse-append (x ∷ []) xs, list_all-append p (reverse xs) (x ∷ []), all_reversed p xs both.1, both.0) refl

suffix_is : (p : ℕ → Bool) (xs : List ℕ) (y : ℕ) (ys : List ℕ) → list_any p ys ≡ false → p y ≡ true → suffix_len (λ x. not (p x)) (xs ++ y ∷ ys) ≡ length ys
suffix_is p xs y ys none is =
    let turned : reverse (xs ++ y ∷ ys) ≡ reverse ys ++ y ∷ reverse xs = reverse-append xs (y ∷ ys) ∙ ap (λ (w : List ℕ). w ++ reverse xs) (reverse-append (y ∷ []) ys) ∙ append_assoc (reverse ys) (y ∷ []) (reverse xs) in
    ap (λ (w : List ℕ). prefix_len (λ x. not (p x)) w) turned ∙ prefix_is p (reverse ys) y (reverse xs) (all_reversed (λ x. not (p x)) ys (none_passes p ys none)) is ∙ length-reverse ys

-- A list is split at the last unit that passes: the units before it, and those after it.
pub record IsCutLast (p : ℕ → Bool) (xs : List ℕ) (y : ℕ) (ys : List ℕ) : Type 0 where
  pub before : before_last p (xs ++ y ∷ ys) ≡ xs
  pub behind : after_last p (xs ++ y ∷ ys) ≡ ys

pub cut_last : (p : ℕ → Bool) (xs : List ℕ) (y : ℕ) (ys : List ℕ) → list_any p ys ≡ false → p y ≡ true → IsCutLast p xs y ys
cut_last p xs y ys none is =
    let k = suffix_is p xs y ys none is in
    let size = length-append xs (y ∷ ys) in
    let first : length (xs ++ y ∷ ys) - suffix_len (λ x. not (p x)) (xs ++ y ∷ ys) - 1 ≡ length xs = omega arith in
    let second : length (xs ++ y ∷ ys) - suffix_len (λ x. not (p x)) (xs ++ y ∷ ys) ≡ length xs + 1 = omega arith in
    record {
      before = ap (λ (n : ℕ). take n (xs ++ y ∷ ys)) first ∙ take-append_seam xs (y ∷ ys);
      behind = ap (λ (n : ℕ). drop n (xs ++ y ∷ ys)) second ∙ drop-append-add xs (y ∷ ys) 1;
    }

-- `list_any` holds for a list that contains a unit that passes.
pub any_between : (p : ℕ → Bool) (xs : List ℕ) (y : ℕ) (ys : List ℕ) → p y ≡ true → list_any p (xs ++ y ∷ ys) ≡ true
any_between p [] y ys is = rw is refl
any_between p (x ∷ xs) y ys is = rw (any_between p xs y ys is) (last (p x))
  where
    last : (b : Bool) → (b || true) ≡ true
    last true = refl
    last false = refl
