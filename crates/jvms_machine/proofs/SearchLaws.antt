-- The results of searches of a list.
use Rattle.std.proofs.Common.{◌≡◌, ℕ, zero, suc, ◌+◌, Bool, true, false, cond, nat_lt, List, [], ◌∷◌, length, Some, None, slice_get, refl, sym, ap, ◌∙◌, subst}
use Rattle.std.specs.List.{AllByRecursion, find, position, position_from, position_or_len}
use Rattle.std.proofs.lemmas.List.Folds.{find_at}
use Rattle.std.proofs.lemmas.Iterator.Adapters.{position_from-zero}
use Rattle.std.proofs.lemmas.Option.{same_Some, none-some, cond_some}

-- A found element passes the test.
passes_by : {X : Type 0} (test : X → Bool) (b : Bool) (y x : X) (xs : List X) → b ≡ test y → (find test xs ≡ Some x → test x ≡ true) → cond b (Some y) (find test xs) ≡ Some x → test x ≡ true
passes_by test true y x xs e more is = subst (λ z. test z ≡ true) (same_Some y x is) (sym e)
passes_by test false y x xs e more is = more is

pub find_passes : {X : Type 0} (test : X → Bool) (xs : List X) (x : X) → find test xs ≡ Some x → test x ≡ true
find_passes test [] x is = absurd (none-some x is)
find_passes test (y ∷ xs) x is = passes_by test (test y) y x xs refl (find_passes test xs x) is

-- The index that a search returns is that of the element found.
pub position_leads : {X : Type 0} (test : X → Bool) (xs : List X) (n : ℕ) → position test xs ≡ Some n → slice_get xs n ≡ find test xs
position_leads test xs n is =
    let same = cond_some (nat_lt (position_or_len test xs) (length xs)) (position_or_len test xs) n is in
    ap (slice_get xs) (sym same.1) ∙ sym (find_at test xs)

-- A found element is at an index.
place_by : {X : Type 0} (test : X → Bool) (b : Bool) (y x : X) (xs : List X) → (find test xs ≡ Some x → (i : ℕ) × (slice_get xs i ≡ Some x)) → cond b (Some y) (find test xs) ≡ Some x → (i : ℕ) × (slice_get (y ∷ xs) i ≡ Some x)
place_by test true y x xs more is = (zero, is)
place_by test false y x xs more is = let place = more is in (suc place.0, place.1)

pub found_at : {X : Type 0} (test : X → Bool) (xs : List X) (x : X) → find test xs ≡ Some x → (i : ℕ) × (slice_get xs i ≡ Some x)
found_at test [] x is = absurd (none-some x is)
found_at test (y ∷ xs) x is = place_by test (test y) y x xs (found_at test xs x) is

-- If none is found, none passes.
none_by : {X : Type 0} (test : X → Bool) (b : Bool) (i : ℕ) (x : X) (xs : List X) → test x ≡ b → (position_from test (i + 1) xs ≡ None → AllByRecursion (λ y. test y ≡ false) xs) → cond b (Some i) (position_from test (i + 1) xs) ≡ None → (test x ≡ false) × AllByRecursion (λ y. test y ≡ false) xs
none_by test true i x xs e more none = absurd (none-some i (sym none))
none_by test false i x xs e more none = (e, more none)

none_from : {X : Type 0} (test : X → Bool) (i : ℕ) (xs : List X) → position_from test i xs ≡ None → AllByRecursion (λ x. test x ≡ false) xs
none_from test i [] is = tt
none_from test i (x ∷ xs) is = none_by test (test x) i x xs refl (none_from test (i + 1) xs) is

pub none_passes : {X : Type 0} (test : X → Bool) (xs : List X) → position test xs ≡ None → AllByRecursion (λ x. test x ≡ false) xs
none_passes test xs is = none_from test 0 xs (sym (position_from-zero test xs) ∙ is)
