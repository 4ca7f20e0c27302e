-- The parts have all jobs together, and no others.
use Rattle.std.proofs.Common.{Bool, List, [], arith, false, inl, inr, refl, subst, sym, true, ℕ, suc, zero, cond, length, max, take, ap, ◌++◌, ◌+◌, ◌%◌, ◌<◌, ◌==◌, ◌∙◌, ◌≡◌, ◌⊎◌, ◌∷◌}
use Rattle.std.proofs.lemmas.Bool.{false≢true}
use Rattle.std.proofs.lemmas.Bool.Decides.{nat_tests}
use Rattle.std.proofs.lemmas.List.{append-nil}
use Rattle.std.specs.Prelude.{get_or, map}
use Rattle.departures.proofs.Lists.{all_are, in_back, in_front}
use Rattle.departures.specs.declared.departure.Departure.{Departure}
use Rattle.departures.specs.Jobs.{IsIn, all_children, children_of, jobs_of}
use Rattle.departures.specs.Turns.{Turns}
use Rattle.exploration_parts.specs.Parts.{IsInAPart, has_first, has_place, jobs_of_part, those_of}
use Rattle.exploration_parts.specs.declared.part.Part.{Part}

-- The schedule is among those of a part, where the first is at this place.
record IsAmong (count place : ℕ) (ds : List Departure) (xs : List (List Departure)) : Type 0 where
  index : ℕ
  below : index < count
  is : IsIn ds (those_of (record { index = index; count = count }) place xs)

kept : (b : Bool) (ds x : List Departure) (xs : List (List Departure)) → IsIn ds xs → IsIn ds (cond b (x ∷ xs) xs)
unfolding IsIn
kept true ds x xs is = inr is
kept false ds x xs is = is

first : (b : Bool) (ds x : List Departure) (xs : List (List Departure)) → b ≡ true → x ≡ ds → IsIn ds (cond b (x ∷ xs) xs)
unfolding IsIn
first true ds x xs on same = inl same
first false ds x xs on same = absurd (false≢true on)

either : (b : Bool) (ds x : List Departure) (xs : List (List Departure)) → IsIn ds (cond b (x ∷ xs) xs) → (x ≡ ds) ⊎ IsIn ds xs
unfolding IsIn
either true ds x xs is = is
either false ds x xs is = inr is

same_is : (n : ℕ) → (n == n) ≡ true
same_is n = grind (arith, nat_tests)

-- Each schedule with one departure is among those of a part.
among : (count : ℕ) → 0 < count → (place : ℕ) (ds : List Departure) (xs : List (List Departure)) → IsIn ds xs → IsAmong count place ds xs
unfolding IsIn those_of
among count some place ds [] is = absurd is
among count some place ds (x ∷ xs) (inl same) =
    let part : Part = record { index = place % count; count = count } in
    let one : max count 1 ≡ count = omega (arith, some) in
    record {
      index = place % count;
      below = omega (arith, some);
      is = first (has_place part place) ds x (those_of part (place + 1) xs) (ap (λ n. place % n == place % count) one ∙ same_is (place % count)) same;
    }
among count some place ds (x ∷ xs) (inr more) =
    let later = among count some (place + 1) ds xs more in
    let part : Part = record { index = later.index; count = count } in
    record {
      index = later.index;
      below = later.below;
      is = kept (has_place part place) ds x (those_of part (place + 1) xs) later.is;
    }

-- What is among those of a part is among all.
those_in : (part : Part) (place : ℕ) (ds : List Departure) (xs : List (List Departure)) → IsIn ds (those_of part place xs) → IsIn ds xs
unfolding IsIn those_of
those_in part place ds [] is = is
those_in part place ds (x ∷ xs) is =
    elim (either (has_place part place) ds x (those_of part (place + 1) xs) is) [
      | inl same ↦ inl same
      | inr more ↦ inr (those_in part (place + 1) ds xs more)
    ]

abbrev one_if : {X : Type 0} → Bool → X → List X
one_if b x = cond b (x ∷ []) []

behind : {X : Type 0} (b : Bool) (x : X) (xs ys : List X) → cond b (x ∷ xs) xs ++ ys ≡ cond b (x ∷ (xs ++ ys)) (xs ++ ys)
behind true x xs ys = refl
behind false x xs ys = refl

map_if : {X Y : Type 0} (b : Bool) (f : X → Y) (x : X) (xs : List X) → map f (cond b (x ∷ xs) xs) ≡ cond b (f x ∷ map f xs) (map f xs)
map_if true f x xs = refl
map_if false f x xs = refl

-- The next of these is appended if it belongs to the part.
one_more : {X : Type 0} (part : Part) (place i : ℕ) (xs : List X) (d : X) → i < length xs
    → those_of part place (take (i + 1) xs) ≡ those_of part place (take i xs) ++ one_if (has_place part (place + i)) (get_or xs i d)
unfolding those_of
one_more part place i [] d less = absurd (omega (arith, less))
one_more part place zero (x ∷ xs) d less =
    let none : place + 0 ≡ place = omega arith in
    ap (λ n. one_if (has_place part n) x) (sym none)
one_more part place (suc i) (x ∷ xs) d less =
    let next : suc i + 1 ≡ suc (i + 1) = omega arith in
    let later : place + 1 + i ≡ place + suc i = omega arith in
    let rest = one_more part (place + 1) i xs d (omega (arith, less)) ∙ ap (λ n. those_of part (place + 1) (take i xs) ++ one_if (has_place part n) (get_or xs i d)) later in
    ap (λ n. those_of part place (take n (x ∷ xs))) next
    ∙ ap (λ l. cond (has_place part place) (x ∷ l) l) rest
    ∙ sym (behind (has_place part place) x (those_of part (place + 1) (take i xs)) (one_if (has_place part (place + suc i)) (get_or xs i d)))

pub one_kept : {X : Type 0} (part : Part) (i : ℕ) (xs : List X) (d : X) → i < length xs → has_place part i ≡ true → those_of part 0 (take (i + 1) xs) ≡ those_of part 0 (take i xs) ++ get_or xs i d ∷ []
one_kept part i xs d less has =
    let here : 0 + i ≡ i = omega arith in
    one_more part 0 i xs d less ∙ ap (λ n. those_of part 0 (take i xs) ++ one_if (has_place part n) (get_or xs i d)) here ∙ ap (λ b. those_of part 0 (take i xs) ++ one_if b (get_or xs i d)) has

pub one_left : {X : Type 0} (part : Part) (i : ℕ) (xs : List X) (d : X) → i < length xs → has_place part i ≡ false → those_of part 0 (take (i + 1) xs) ≡ those_of part 0 (take i xs)
one_left part i xs d less has =
    let here : 0 + i ≡ i = omega arith in
    one_more part 0 i xs d less ∙ ap (λ n. those_of part 0 (take i xs) ++ one_if (has_place part n) (get_or xs i d)) here ∙ ap (λ b. those_of part 0 (take i xs) ++ one_if b (get_or xs i d)) has
    ∙ append-nil (those_of part 0 (take i xs))

-- What is made of each is made of those of a part.
pub those_of_map : {X Y : Type 0} (part : Part) (place : ℕ) (f : X → Y) (xs : List X) → map f (those_of part place xs) ≡ those_of part place (map f xs)
unfolding those_of
those_of_map part place f [] = refl
those_of_map part place f (x ∷ xs) = map_if (has_place part place) f x (those_of part (place + 1) xs) ∙ ap (λ l. cond (has_place part place) (f x ∷ l) l) (those_of_map part (place + 1) f xs)

first_in : (b : Bool) (ds : List Departure) → IsIn ds (cond b ([] ∷ []) []) → IsIn ds ([] ∷ [])
unfolding IsIn
first_in true ds is = is
first_in false ds is = absurd is

module _ {S : Type 0} (sys : Turns S) (is_local : S → ℕ → Bool) where
  in_all : (n : ℕ) (s : S) (last : ℕ) (xs : List (List Departure)) (parent child : List Departure) → IsIn parent xs → IsIn child (children_of sys is_local n s last parent) → IsIn child (all_children sys is_local n s last xs)
  unfolding IsIn all_children
  in_all n s last [] parent child is below = absurd is
  in_all n s last (x ∷ xs) parent child (inl same) below =
      in_front child (children_of sys is_local n s last x) (all_children sys is_local n s last xs) (subst (λ y. IsIn child (children_of sys is_local n s last y)) (sym same) below)
  in_all n s last (x ∷ xs) parent child (inr more) below =
      in_back child (children_of sys is_local n s last x) (all_children sys is_local n s last xs) (in_all n s last xs parent child more below)

  pub in_a_part : (count : ℕ) → 0 < count → (turns : ℕ) (s : S) (last level : ℕ) (ds : List Departure) → IsIn ds (jobs_of sys is_local turns s last level) → IsInAPart sys is_local count turns s last level ds
  unfolding jobs_of jobs_of_part
  in_a_part count some turns s last zero ds is = record { index = 0; below = some; is = is }
  in_a_part count some turns s last (suc zero) ds is =
      let here = among count some 0 ds (jobs_of sys is_local turns s last 1) is in
      record { index = here.index; below = here.below; is = here.is }
  in_a_part count some turns s last (suc (suc level)) ds is =
      let from = all_are sys is_local turns s last (jobs_of sys is_local turns s last (suc level)) ds is in
      let part = in_a_part count some turns s last (suc level) from.0 from.1 in
      record {
        index = part.index;
        below = part.below;
        is = in_all turns s last (jobs_of_part sys is_local (record { index = part.index; count = count }) turns s last (suc level)) from.0 ds part.is from.2;
      }

  pub part_in : (part : Part) (turns : ℕ) (s : S) (last level : ℕ) (ds : List Departure) → IsIn ds (jobs_of_part sys is_local part turns s last level) → IsIn ds (jobs_of sys is_local turns s last level)
  unfolding jobs_of jobs_of_part
  part_in part turns s last zero ds is = first_in (has_first part) ds is
  part_in part turns s last (suc zero) ds is = those_in part 0 ds (jobs_of sys is_local turns s last 1) is
  part_in part turns s last (suc (suc level)) ds is =
      let from = all_are sys is_local turns s last (jobs_of_part sys is_local part turns s last (suc level)) ds is in
      in_all turns s last (jobs_of sys is_local turns s last (suc level)) from.0 ds (part_in part turns s last (suc level) from.0 from.1) from.2
