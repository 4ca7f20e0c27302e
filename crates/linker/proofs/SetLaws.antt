-- Sets of numbers, one number after another.
use Rattle.std.proofs.Common.{◌≡◌, ℕ, zero, suc, ◌<◌, ◌≤◌, Bool, true, false, cond, ◌||◌, ◌&&◌, eqb, List, [], ◌∷◌, ◌++◌, length, get_or, set, Option, Some, None, IfSome, refl, sym, ap, subst, ◌∙◌, ◌⊎◌, inl, inr, ⊎_elim, arith}
use Rattle.std.specs.Prelude.{slice_get, unwrap_or}
use Rattle.std.specs.List.{list_all, AllClonesOf, IsDistinct}
use Rattle.std.specs.Cmp.{nat_eq_equiv}
use Rattle.std.proofs.lemmas.Bool.{cases_eq, cases_lt, and_parts, false≢true}
use Rattle.std.proofs.lemmas.Bool.Decides.{nat_tests}
use Rattle.std.proofs.lemmas.List.{get_or-set_same, get_or-set_other, get_or_append_left, get_or_push, get_or_past, length_push}
use Rattle.std.proofs.lemmas.List.Folds.{list_any-append}
use Rattle.std.proofs.lemmas.Map.Keys.{IsDistinct-push, any_passes_from_place}
use Rattle.std.proofs.lemmas.Map.Steps.{length-le_from_distinct_below}
use Rattle.std.proofs.lemmas.Option.{none-some, slice_get-get_or, unwrap_or-slice_get}
use Rattle.linker.specs.Supers.{is_in, with_number, with_numbers, AreMarked}

-- ---- Marks

unmarked : (marks : List Bool) → AllClonesOf (λ x y. y ≡ x) false marks → (n : ℕ) → get_or marks n false ≡ false
unmarked [] all n = refl
unmarked (b ∷ marks) all zero = ⊎_elim (λ e. e) (λ e. e) all.0
unmarked (b ∷ marks) all (suc n) = unmarked marks all.1 n

none_twice : IsDistinct eqb []
unfolding IsDistinct
none_twice = tt

pub none_marked : (marks : List Bool) → AllClonesOf (λ x y. y ≡ x) false marks → AreMarked marks []
none_marked marks all = record {
  marked = λ n. unwrap_or-slice_get marks n false ∙ unmarked marks all n;
  once = none_twice;
}

is_itself : (n : ℕ) → eqb n n ≡ true
is_itself n = grind (arith, nat_tests)

same_number : (n m : ℕ) → eqb n m ≡ true → m ≡ n
same_number n m same = grind (arith, nat_tests)

or_cases : (a b : Bool) → (a || b) ≡ true → (a ≡ true) ⊎ (b ≡ true)
or_cases true b h = inl refl
or_cases false b h = inr h

is_another : (n m : ℕ) → (n ≡ m → ⊥) → eqb n m ≡ false
is_another n m other = grind (arith, nat_tests)

or_last : (b c : Bool) → (b || (c || false)) ≡ (b || c)
or_last true c = refl
or_last false true = refl
or_last false false = refl

or_true : (b : Bool) → (b || true) ≡ true
or_true true = refl
or_true false = refl

or_false : (b : Bool) → (b || false) ≡ b
or_false true = refl
or_false false = refl

-- A number is in a set with one more if it is in the set, or is the new one.
pub is_in_push : (numbers : List ℕ) (m n : ℕ) → is_in (numbers ++ m ∷ []) n ≡ (is_in numbers n || eqb n m)
is_in_push numbers m n = list_any-append (eqb n) numbers (m ∷ []) ∙ or_last (is_in numbers n) (eqb n m)

pub one_marked : (marks : List Bool) (numbers : List ℕ) (m : ℕ) → m < length marks → is_in numbers m ≡ false → AreMarked marks numbers → AreMarked (set marks m true) (numbers ++ m ∷ [])
one_marked marks numbers m within new are = record {
  marked = λ n.
      unwrap_or-slice_get (set marks m true) n false
      ∙ ⊎_elim
      (λ (here : n ≡ m).
      ap (λ k. get_or (set marks m true) k false) here ∙ get_or-set_same marks m true false within
      ∙ sym (is_in_push numbers m n ∙ ap (λ b. is_in numbers n || b) (ap (eqb n) (sym here) ∙ is_itself n) ∙ or_true (is_in numbers n)))
      (λ (other : n ≡ m → ⊥).
      get_or-set_other marks m n true false other ∙ sym (unwrap_or-slice_get marks n false) ∙ are.marked n
      ∙ sym (is_in_push numbers m n ∙ ap (λ b. is_in numbers n || b) (is_another n m other) ∙ or_false (is_in numbers n)))
      (cases_eq n m);
  once = IsDistinct-push nat_eq_equiv numbers m are.once new;
}

below : (marks : List Bool) (n : ℕ) (o : (n < length marks) ⊎ (length marks ≤ n)) → unwrap_or (slice_get marks n) false ≡ true → n < length marks
below marks n (inl within) marked = within
below marks n (inr past) marked = absurd (false≢true (sym (get_or_past marks n false past) ∙ sym (unwrap_or-slice_get marks n false) ∙ marked))

pub marked_are_few : (marks : List Bool) (numbers : List ℕ) → AreMarked marks numbers → length numbers ≤ length marks
marked_are_few marks numbers are =
    length-le_from_distinct_below numbers (length marks) are.once
    (λ n there. below marks n (cases_lt n (length marks)) (are.marked n ∙ there))

is_there : (numbers : List ℕ) (place n : ℕ) → slice_get numbers place ≡ Some n → is_in numbers n ≡ true
is_there numbers place n at = any_passes_from_place (eqb n) numbers place n at (is_itself n)

-- A number of the set is below the limit.
pub below_limit : (marks : List Bool) (numbers : List ℕ) (place n : ℕ) → AreMarked marks numbers → slice_get numbers place ≡ Some n → n < length marks
below_limit marks numbers place n are at = below marks n (cases_lt n (length marks)) (are.marked n ∙ is_there numbers place n at)

pub below_if : (marks : List Bool) (numbers : List ℕ) (place limit : ℕ) (o : Option ℕ) → AreMarked marks numbers → length marks ≡ limit → o ≡ slice_get numbers place → IfSome o (λ n. n < limit)
below_if marks numbers place limit None are is e = tt
below_if marks numbers place limit (Some n) are is e = subst (λ k. n < k) is (below_limit marks numbers place n are (sym e))

past_by : (numbers : List ℕ) (place : ℕ) (o : (place < length numbers) ⊎ (length numbers ≤ place)) → None ≡ slice_get numbers place → length numbers ≤ place
past_by numbers place (inl within) none = absurd (none-some (get_or numbers place 0) (none ∙ slice_get-get_or numbers place 0 within))
past_by numbers place (inr past) none = past

-- A place without a number is at or after the end of the set.
pub past_place : (numbers : List ℕ) (place : ℕ) → None ≡ slice_get numbers place → length numbers ≤ place
past_place numbers place none = past_by numbers place (cases_lt place (length numbers)) none

-- The place of a number of the set.
pub place_of : (numbers : List ℕ) (n : ℕ) → is_in numbers n ≡ true → (j : ℕ) × (j < length numbers) × (get_or numbers j 0 ≡ n)
place_of [] n there = absurd (false≢true there)
place_of (m ∷ numbers) n there =
    ⊎_elim
    (λ here. (0, omega arith, same_number n m here))
    (λ later. let p = place_of numbers n later in (suc p.0, omega (arith, p.1), p.2))
    (or_cases (eqb n m) (is_in numbers n) there)

-- ---- One more number

add_by : (b : Bool) (numbers : List ℕ) (m : ℕ) → is_in numbers m ≡ b → is_in (cond b numbers (numbers ++ m ∷ [])) m ≡ true
add_by true numbers m e = e
add_by false numbers m e = is_in_push numbers m m ∙ ap (λ b. is_in numbers m || b) (is_itself m) ∙ or_true (is_in numbers m)

kept_by : (b : Bool) (numbers : List ℕ) (m n : ℕ) → is_in numbers n ≡ true → is_in (cond b numbers (numbers ++ m ∷ [])) n ≡ true
kept_by true numbers m n there = there
kept_by false numbers m n there = is_in_push numbers m n ∙ ap (λ b. b || eqb n m) there

place_by : (b : Bool) (numbers : List ℕ) (m j : ℕ) → j < length numbers → get_or (cond b numbers (numbers ++ m ∷ [])) j 0 ≡ get_or numbers j 0
place_by true numbers m j within = refl
place_by false numbers m j within = get_or_append_left numbers (m ∷ []) 0 j within

longer_by : (b : Bool) (numbers : List ℕ) (m : ℕ) → length numbers ≤ length (cond b numbers (numbers ++ m ∷ []))
longer_by true numbers m = omega arith
longer_by false numbers m = omega (arith, length_push numbers m)

came_by : (b : Bool) (numbers : List ℕ) (m j : ℕ) → length numbers ≤ j → j < length (cond b numbers (numbers ++ m ∷ [])) → get_or (cond b numbers (numbers ++ m ∷ [])) j 0 ≡ m
came_by true numbers m j past within = absurd (omega arith)
came_by false numbers m j past within = get_or_push numbers m 0 j (omega (arith, length_push numbers m))

-- ---- More numbers

pub still_in : (numbers more : List ℕ) (n : ℕ) → is_in numbers n ≡ true → is_in (with_numbers numbers more) n ≡ true
still_in numbers [] n there = there
still_in numbers (m ∷ more) n there = still_in (with_number numbers m) more n (kept_by (is_in numbers m) numbers m n there)

pub all_in : (numbers more : List ℕ) → list_all (is_in (with_numbers numbers more)) more ≡ true
all_in numbers [] = refl
all_in numbers (m ∷ more) =
    let here = still_in (with_number numbers m) more m (add_by (is_in numbers m) numbers m refl) in
    (λ i. here i && all_in (with_number numbers m) more i)

pub no_shorter : (numbers more : List ℕ) → length numbers ≤ length (with_numbers numbers more)
no_shorter numbers [] = omega arith
no_shorter numbers (m ∷ more) = omega (arith, longer_by (is_in numbers m) numbers m, no_shorter (with_number numbers m) more)

pub same_place : (numbers more : List ℕ) (j : ℕ) → j < length numbers → get_or (with_numbers numbers more) j 0 ≡ get_or numbers j 0
same_place numbers [] j within = refl
same_place numbers (m ∷ more) j within =
    same_place (with_number numbers m) more j (omega (arith, longer_by (is_in numbers m) numbers m)) ∙ place_by (is_in numbers m) numbers m j within

or_left : (b c : Bool) → b ≡ true → (b || c) ≡ true
or_left true c h = refl
or_left false c h = absurd (false≢true h)

or_right : (b c : Bool) → c ≡ true → (b || c) ≡ true
or_right true c h = refl
or_right false c h = h

-- A number at a new place is one of those that were added.
pub new_place : (numbers more : List ℕ) (j : ℕ) → length numbers ≤ j → j < length (with_numbers numbers more) → is_in more (get_or (with_numbers numbers more) j 0) ≡ true
new_place numbers [] j past within = absurd (omega arith)
new_place numbers (m ∷ more) j past within =
    ⊎_elim
    (λ (early : j < length (with_number numbers m)).
    let it : get_or (with_numbers numbers (m ∷ more)) j 0 ≡ m = same_place (with_number numbers m) more j early ∙ came_by (is_in numbers m) numbers m j past early in
    or_left (eqb (get_or (with_numbers numbers (m ∷ more)) j 0) m) (is_in more (get_or (with_numbers numbers (m ∷ more)) j 0)) (ap (λ n. eqb n m) it ∙ is_itself m))
    (λ (late : length (with_number numbers m) ≤ j).
    or_right (eqb (get_or (with_numbers numbers (m ∷ more)) j 0) m) (is_in more (get_or (with_numbers numbers (m ∷ more)) j 0)) (new_place (with_number numbers m) more j late within))
    (cases_lt j (length (with_number numbers m)))

-- Numbers that are all in a set are all in it with more.
pub still_all_in : (numbers more ns : List ℕ) → list_all (is_in numbers) ns ≡ true → list_all (is_in (with_numbers numbers more)) ns ≡ true
still_all_in numbers more [] all = refl
still_all_in numbers more (n ∷ ns) all =
    let parts = and_parts (is_in numbers n) (list_all (is_in numbers) ns) all in
    let here = still_in numbers more n parts.0 in
    (λ i. here i && still_all_in numbers more ns parts.1 i)
