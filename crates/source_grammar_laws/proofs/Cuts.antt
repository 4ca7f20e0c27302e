-- Proves how lists are split: at the end, and at the first or the last unit that passes a test.
use Rattle.std.proofs.Common.{◌≡◌, ℕ, suc, ◌+◌, ◌-◌, ◌≤◌, ◌||◌, Bool, true, false, not, List, [], ◌∷◌, ◌++◌, length, take, drop, reverse, Option, Some, refl, sym, ap, ◌∙◌, append_assoc, arith}
use Rattle.std.specs.Prelude.{slice_get}
use Rattle.std.specs.List.{list_all, list_any, prefix_len, suffix_len, position_or_len, before_first, after_first, before_last, after_last}
use Rattle.std.proofs.Math.Seq.{take-append_seam, drop-append_seam, drop-append-add}
use Rattle.std.proofs.lemmas.Bool.{and_parts, or_parts}
use Rattle.std.proofs.lemmas.Option.{none-some}
use Rattle.std.proofs.lemmas.List.{length-append, reverse-append, length-reverse}
use Rattle.std.proofs.lemmas.List.Folds.{list_all-append}

-- ---- Lists by their elements

-- A list has these elements from a place on.
abbrev pub AreAt : {A : Type 0} → List A → ℕ → List A → Type 0
AreAt xs k [] = Unit {0}
AreAt xs k (y ∷ ys) = (slice_get xs k ≡ Some y) × AreAt xs (suc k) ys

one_back : {A : Type 0} (x : A) (xs : List A) (k : ℕ) (ys : List A) → AreAt (x ∷ xs) (suc k) ys → AreAt xs k ys
one_back x xs k [] are = tt
one_back x xs k (y ∷ ys) are = (are.0, one_back x xs (suc k) ys are.1)

-- A list is equal to one of the same length whose elements it has.
pub these : {A : Type 0} (xs ys : List A) → length xs ≡ length ys → AreAt xs 0 ys → xs ≡ ys
these [] [] e are = refl
these [] (y ∷ ys) e are = absurd (none-some y are.0)
these (x ∷ xs) [] e are = absurd (omega arith)
these {A} (x ∷ xs) (y ∷ ys) e are =
    let first : ◌≡◌ {A = Option A} (Some x) (Some y) = are.0 in
    let rest : xs ≡ ys = these xs ys (omega arith) (one_back x xs 0 ys are.1) in
    cc

-- ---- At the end

seam : {A : Type 0} (xs : List A) (y : A) (ys : List A) → slice_get (xs ++ y ∷ ys) (length xs) ≡ Some y
seam [] y ys = refl
seam (x ∷ xs) y ys = seam xs y ys

behind_seam : {A : Type 0} (xs : List A) (y z : A) → slice_get (xs ++ y ∷ z ∷ []) (suc (length xs)) ≡ Some z
behind_seam [] y z = refl
behind_seam (x ∷ xs) y z = behind_seam xs y z

one_less : {A : Type 0} (xs : List A) (y : A) → length (xs ++ y ∷ []) - 1 ≡ length xs
one_less xs y = let size = length-append xs (y ∷ []) in omega arith

two_less : {A : Type 0} (xs : List A) (y z : A) → length (xs ++ y ∷ z ∷ []) - 2 ≡ length xs
two_less xs y z = let size = length-append xs (y ∷ z ∷ []) in omega arith

of_two : {A : Type 0} (xs : List A) (y z : A) → length (xs ++ y ∷ z ∷ []) - 1 ≡ suc (length xs)
of_two xs y z = let size = length-append xs (y ∷ z ∷ []) in omega arith

pub at_least_two : {A : Type 0} (xs : List A) (y z : A) → 2 ≤ length (xs ++ y ∷ z ∷ [])
at_least_two xs y z = let size = length-append xs (y ∷ z ∷ []) in omega arith

pub but_last_is : {A : Type 0} (xs : List A) (y : A) → take (length (xs ++ y ∷ []) - 1) (xs ++ y ∷ []) ≡ xs
but_last_is {A} xs y = ap (λ (n : ℕ). take n (xs ++ y ∷ [])) (one_less xs y) ∙ take-append_seam xs (y ∷ [])

pub last_is : {A : Type 0} (xs : List A) (y : A) → slice_get (xs ++ y ∷ []) (length (xs ++ y ∷ []) - 1) ≡ Some y
last_is {A} xs y = ap (λ (n : ℕ). slice_get (xs ++ y ∷ []) n) (one_less xs y) ∙ seam xs y []

pub but_two_is : {A : Type 0} (xs : List A) (y z : A) → take (length (xs ++ y ∷ z ∷ []) - 2) (xs ++ y ∷ z ∷ []) ≡ xs
but_two_is {A} xs y z = ap (λ (n : ℕ). take n (xs ++ y ∷ z ∷ [])) (two_less xs y z) ∙ take-append_seam xs (y ∷ z ∷ [])

pub last_but_one_is : {A : Type 0} (xs : List A) (y z : A) → slice_get (xs ++ y ∷ z ∷ []) (length (xs ++ y ∷ z ∷ []) - 2) ≡ Some y
last_but_one_is {A} xs y z = ap (λ (n : ℕ). slice_get (xs ++ y ∷ z ∷ []) n) (two_less xs y z) ∙ seam xs y (z ∷ [])

pub last_of_two_is : {A : Type 0} (xs : List A) (y z : A) → slice_get (xs ++ y ∷ z ∷ []) (length (xs ++ y ∷ z ∷ []) - 1) ≡ Some z
last_of_two_is {A} xs y z = ap (λ (n : ℕ). slice_get (xs ++ y ∷ z ∷ []) n) (of_two xs y z) ∙ behind_seam xs y z

-- A list has a last element.
pub record HasLast {A : Type 0} (xs : List A) : Type 0 where
  pub front : List A
  pub last : A
  pub whole : xs ≡ front ++ last ∷ []

pub has_last : {A : Type 0} (x : A) (xs : List A) → HasLast (x ∷ xs)
has_last x [] = record { front = []; last = x; whole = refl }
has_last {A} x (y ∷ ys) =
    let rest = has_last y ys in
    record { front = x ∷ rest.front; last = rest.last; whole = ap (λ (zs : List A). x ∷ zs) rest.whole }

-- A list is all but its last element, followed by that element.
pub whole_by_last : {A : Type 0} (xs : List A) (y : A) → slice_get xs (length xs - 1) ≡ Some y → xs ≡ take (length xs - 1) xs ++ y ∷ []
whole_by_last [] y e = absurd (none-some y e)
whole_by_last {A} (x ∷ xs) y e =
    let h = has_last x xs in
    let last : slice_get (x ∷ xs) (length (x ∷ xs) - 1) ≡ Some h.last = ap (λ (zs : List A). slice_get zs (length zs - 1)) h.whole ∙ last_is h.front h.last in
    let front : take (length (x ∷ xs) - 1) (x ∷ xs) ≡ h.front = ap (λ (zs : List A). take (length zs - 1) zs) h.whole ∙ but_last_is h.front h.last in
    let same : h.last ≡ y = some_same h.last y (sym last ∙ e) in
    h.whole ∙ ap (λ (z : A). h.front ++ z ∷ []) same ∙ ap (λ (zs : List A). zs ++ y ∷ []) (sym front)
  where
    some_same : (a b : A) → ◌≡◌ {A = Option A} (Some a) (Some b) → a ≡ b
    some_same a b e = cc

-- A list has two last elements.
pub record HasTwo {A : Type 0} (xs : List A) : Type 0 where
  pub front : List A
  pub first : A
  pub last : A
  pub whole : xs ≡ front ++ first ∷ last ∷ []

pub has_two : {A : Type 0} (x y : A) (xs : List A) → HasTwo (x ∷ y ∷ xs)
has_two x y [] = record { front = []; first = x; last = y; whole = refl }
has_two {A} x y (z ∷ zs) =
    let rest = has_two y z zs in
    record { front = x ∷ rest.front; first = rest.first; last = rest.last; whole = ap (λ (ws : List A). x ∷ ws) rest.whole }

pub whole_by_two : {A : Type 0} (xs : List A) (y z : A) → 2 ≤ length xs → slice_get xs (length xs - 2) ≡ Some y → slice_get xs (length xs - 1) ≡ Some z → xs ≡ take (length xs - 2) xs ++ y ∷ z ∷ []
whole_by_two [] y z many e f = absurd (omega arith)
whole_by_two (w ∷ []) y z many e f = absurd (omega arith)
whole_by_two {A} (w ∷ x ∷ xs) y z many e f =
    let h = has_two w x xs in
    let all = w ∷ x ∷ xs in
    let last : slice_get (w ∷ x ∷ xs) (length (w ∷ x ∷ xs) - 1) ≡ Some h.last = ap (λ (zs : List A). slice_get zs (length zs - 1)) h.whole ∙ last_of_two_is h.front h.first h.last in
    let first : slice_get (w ∷ x ∷ xs) (length (w ∷ x ∷ xs) - 2) ≡ Some h.first = ap (λ (zs : List A). slice_get zs (length zs - 2)) h.whole ∙ last_but_one_is h.front h.first h.last in
    let front : take (length (w ∷ x ∷ xs) - 2) (w ∷ x ∷ xs) ≡ h.front = ap (λ (zs : List A). take (length zs - 2) zs) h.whole ∙ but_two_is h.front h.first h.last in
    let same_first : h.first ≡ y = some_same h.first y (sym first ∙ e) in
    let same_last : h.last ≡ z = some_same h.last z (sym last ∙ f) in
    h.whole ∙ ap (λ (a : A). h.front ++ a ∷ h.last ∷ []) same_first ∙ ap (λ (a : A). h.front ++ y ∷ a ∷ []) same_last ∙ ap (λ (zs : List A). zs ++ y ∷ z ∷ []) (sym front)
  where
    some_same : (a b : A) → ◌≡◌ {A = Option A} (Some a) (Some b) → a ≡ b
    some_same a b e = cc

-- ---- At a unit that passes a test

none_passes : (p : ℕ → Bool) (xs : List ℕ) → list_any p xs ≡ false → list_all (λ x. not (p x)) xs ≡ true
none_passes p [] e = refl
none_passes p (x ∷ xs) e =
    let both = or_parts (p x) (list_any p xs) e in
    rw (both.0, none_passes p xs both.1) refl

prefix_is : (p : ℕ → Bool) (xs : List ℕ) (y : ℕ) (ys : List ℕ) → list_all (λ x. not (p x)) xs ≡ true → p y ≡ true → prefix_len (λ x. not (p x)) (xs ++ y ∷ ys) ≡ length xs
prefix_is p [] y ys none is = rw is refl
prefix_is p (x ∷ xs) y ys none is =
    let both = and_parts (not (p x)) (list_all (λ z. not (p z)) xs) none in
    let rest = prefix_is p xs y ys both.1 is in
    let next : 1 + length xs ≡ suc (length xs) = omega arith in
    rw (both.0, rest) next

-- A list is split at the first unit that passes: the units before it, those from it on, and those after it.
pub record IsCutFirst (p : ℕ → Bool) (xs : List ℕ) (y : ℕ) (ys : List ℕ) : Type 0 where
  pub before : before_first p (xs ++ y ∷ ys) ≡ xs
  pub from : drop (position_or_len p (xs ++ y ∷ ys)) (xs ++ y ∷ ys) ≡ y ∷ ys
  pub behind : after_first p (xs ++ y ∷ ys) ≡ ys

pub cut_first : (p : ℕ → Bool) (xs : List ℕ) (y : ℕ) (ys : List ℕ) → list_any p xs ≡ false → p y ≡ true → IsCutFirst p xs y ys
cut_first p xs y ys none is =
    let place = prefix_is p xs y ys (none_passes p xs none) is in
    record {
      before = ap (λ (n : ℕ). take n (xs ++ y ∷ ys)) place ∙ take-append_seam xs (y ∷ ys);
      from = ap (λ (n : ℕ). drop n (xs ++ y ∷ ys)) place ∙ drop-append_seam xs (y ∷ ys);
      behind = ap (λ (n : ℕ). drop (n + 1) (xs ++ y ∷ ys)) place ∙ drop-append-add xs (y ∷ ys) 1;
    }

all_reversed : (p : ℕ → Bool) (xs : List ℕ) → list_all p xs ≡ true → list_all p (reverse xs) ≡ true
all_reversed p [] e = refl
all_reversed p (x ∷ xs) e =
    let both = and_parts (p x) (list_all p xs) e in
    rw (reverse-append (x ∷ []) xs, list_all-append p (reverse xs) (x ∷ []), all_reversed p xs both.1, both.0) refl

suffix_is : (p : ℕ → Bool) (xs : List ℕ) (y : ℕ) (ys : List ℕ) → list_any p ys ≡ false → p y ≡ true → suffix_len (λ x. not (p x)) (xs ++ y ∷ ys) ≡ length ys
suffix_is p xs y ys none is =
    let turned : reverse (xs ++ y ∷ ys) ≡ reverse ys ++ y ∷ reverse xs = reverse-append xs (y ∷ ys) ∙ ap (λ (w : List ℕ). w ++ reverse xs) (reverse-append (y ∷ []) ys) ∙ append_assoc (reverse ys) (y ∷ []) (reverse xs) in
    ap (λ (w : List ℕ). prefix_len (λ x. not (p x)) w) turned ∙ prefix_is p (reverse ys) y (reverse xs) (all_reversed (λ x. not (p x)) ys (none_passes p ys none)) is ∙ length-reverse ys

-- A list is split at the last unit that passes: the units before it, and those after it.
pub record IsCutLast (p : ℕ → Bool) (xs : List ℕ) (y : ℕ) (ys : List ℕ) : Type 0 where
  pub before : before_last p (xs ++ y ∷ ys) ≡ xs
  pub behind : after_last p (xs ++ y ∷ ys) ≡ ys

pub cut_last : (p : ℕ → Bool) (xs : List ℕ) (y : ℕ) (ys : List ℕ) → list_any p ys ≡ false → p y ≡ true → IsCutLast p xs y ys
cut_last p xs y ys none is =
    let k = suffix_is p xs y ys none is in
    let size = length-append xs (y ∷ ys) in
    let first : length (xs ++ y ∷ ys) - suffix_len (λ x. not (p x)) (xs ++ y ∷ ys) - 1 ≡ length xs = omega arith in
    let second : length (xs ++ y ∷ ys) - suffix_len (λ x. not (p x)) (xs ++ y ∷ ys) ≡ length xs + 1 = omega arith in
    record {
      before = ap (λ (n : ℕ). take n (xs ++ y ∷ ys)) first ∙ take-append_seam xs (y ∷ ys);
      behind = ap (λ (n : ℕ). drop n (xs ++ y ∷ ys)) second ∙ drop-append-add xs (y ∷ ys) 1;
    }

-- `list_any` holds for a list that contains a unit that passes.
pub any_between : (p : ℕ → Bool) (xs : List ℕ) (y : ℕ) (ys : List ℕ) → p y ≡ true → list_any p (xs ++ y ∷ ys) ≡ true
any_between p [] y ys is = rw is refl
any_between p (x ∷ xs) y ys is = rw (any_between p xs y ys is) (last (p x))
  where
    last : (b : Bool) → (b || true) ≡ true
    last true = refl
    last false = refl

-- A list that has a unit that passes can be split at the first such unit. Below, at the last one.
pub record HasFirst (p : ℕ → Bool) (w : List ℕ) : Type 0 where
  pub xs : List ℕ
  pub y : ℕ
  pub ys : List ℕ
  pub whole : w ≡ xs ++ y ∷ ys
  pub none : list_any p xs ≡ false
  pub passes : p y ≡ true

pub has_first : (p : ℕ → Bool) (w : List ℕ) → list_any p w ≡ true → HasFirst p w
has_first p [] e = absurd cc
has_first p (u ∷ us) e = by (p u) refl e (has_first p us)
  where
    by : (b : Bool) → p u ≡ b → (b || list_any p us) ≡ true → (list_any p us ≡ true → HasFirst p us) → HasFirst p (u ∷ us)
    by true is e next = record { xs = []; y = u; ys = us; whole = refl; none = refl; passes = is }
    by false is e next =
        let h = next e in
        record { xs = u ∷ h.xs; y = h.y; ys = h.ys; whole = ap (λ (v : List ℕ). u ∷ v) h.whole; none = rw (is, h.none) refl; passes = h.passes }

pub record HasLastSuch (p : ℕ → Bool) (w : List ℕ) : Type 0 where
  pub xs : List ℕ
  pub y : ℕ
  pub ys : List ℕ
  pub whole : w ≡ xs ++ y ∷ ys
  pub none : list_any p ys ≡ false
  pub passes : p y ≡ true

either_of : (a b : Bool) → (a || b) ≡ true → b ≡ false → a ≡ true
either_of true b e none = refl
either_of false b e none = absurd cc

pub has_last_such : (p : ℕ → Bool) (w : List ℕ) → list_any p w ≡ true → HasLastSuch p w
has_last_such p [] e = absurd cc
has_last_such p (u ∷ us) e = by (list_any p us) refl (has_last_such p us)
  where
    by : (b : Bool) → list_any p us ≡ b → (list_any p us ≡ true → HasLastSuch p us) → HasLastSuch p (u ∷ us)
    by true is next =
        let h = next is in
        record { xs = u ∷ h.xs; y = h.y; ys = h.ys; whole = ap (λ (v : List ℕ). u ∷ v) h.whole; none = h.none; passes = h.passes }
    by false is next = record { xs = []; y = u; ys = us; whole = refl; none = is; passes = either_of (p u) (list_any p us) e is }
