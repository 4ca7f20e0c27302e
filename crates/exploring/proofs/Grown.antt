-- The children of a job are added to the jobs of a level, of which at most a number is kept.
use Rattle.std.proofs.Common.{Bool, List, [], ap, arith, false, length, refl, sym, take, true, ℕ, suc, zero, ◌+◌, ◌-◌, ◌<◌, ◌∙◌, ◌∷◌, ◌++◌, ◌≡◌}
use Rattle.std.proofs.lemmas.Bool.Decides.{nat_tests}
use Rattle.std.proofs.lemmas.List.{length-append, length-map, map_push, take_all, take_more}
use Rattle.std.specs.Prelude.{get_or, min, nat_lt}
use Rattle.departures.specs.declared.departure.Departure.{Departure}
use Rattle.exploring.specs.Growths.{IsGrowthOf}
use Rattle.explore_jobs.specs.Children.{with_each}
use Rattle.exploring.specs.declared.growth.Growth.{Growth}

min_by : {X : Type 0} (n : ℕ) (ys : List X) (b : Bool) → nat_lt n (length ys) ≡ b → take (min (length ys) n) ys ≡ take n ys
min_by n ys true is = let same : min (length ys) n ≡ n = grind (arith, nat_tests) in ap (λ k. take k ys) same
min_by n ys false is =
    let same : min (length ys) n ≡ length ys = grind (arith, nat_tests) in
    ap (λ k. take k ys) same ∙ take_all (length ys) ys (omega arith) ∙ sym (take_all n ys (grind (arith, nat_tests)))

-- What is kept of two lists is what is kept of the first, and of the second as much as there is room for.
kept_of : {X : Type 0} (room : ℕ) (xs ys : List X) → take room (xs ++ ys) ≡ take room xs ++ take (min (length ys) (room - length (take room xs))) ys
kept_of zero xs ys = let none : min (length ys) 0 ≡ 0 = omega arith in sym (ap (λ k. take k ys) none)
kept_of (suc room) [] ys =
    let all : suc room - 0 ≡ suc room = omega arith in
    sym (ap (λ n. take (min (length ys) n) ys) all ∙ min_by (suc room) ys (nat_lt (suc room) (length ys)) refl)
kept_of (suc room) (x ∷ xs) ys =
    let same : suc room - suc (length (take room xs)) ≡ room - length (take room xs) = omega arith in
    ap (λ l. x ∷ l) (kept_of room xs ys) ∙ ap (λ n. x ∷ (take room xs ++ take (min (length ys) n) ys)) (sym same)

map_some : (parent : List Departure) (n : ℕ) (added : List Departure) → with_each parent (take n added) ≡ take n (with_each parent added)
map_some parent zero added = refl
map_some parent (suc n) [] = refl
map_some parent (suc n) (d ∷ added) = ap (λ l. (parent ++ d ∷ []) ∷ l) (map_some parent n added)

pub one_added : (parent xs : List Departure) (i : ℕ) (d : Departure) → i < length xs → with_each parent (take (i + 1) xs) ≡ with_each parent (take i xs) ++ (parent ++ get_or xs i d ∷ []) ∷ []
one_added parent xs i d less =
    ap (λ l. with_each parent l) (take_more xs i d less) ∙ map_push (λ x. parent ++ x ∷ []) (take i xs) (get_or xs i d)

-- All of them are added.
pub all_added : (room : ℕ) (jobs : List (List Departure)) (old new : Growth) (parent added items : List Departure) (free kept : ℕ) → IsGrowthOf room jobs old
    → free ≡ room - length old.jobs.jobs → kept ≡ min (length added) free → items ≡ take kept added
    → new.jobs.jobs ≡ old.jobs.jobs ++ with_each parent items → new.count ≡ old.count + length added → IsGrowthOf room (jobs ++ with_each parent added) new
all_added room jobs old new parent added items free kept is free_is kept_is items_are jobs_are count_is =
    let long : length (with_each parent added) ≡ length added = length-map added (λ d. parent ++ d ∷ []) in
    let same : kept ≡ min (length (with_each parent added)) (room - length (take room jobs)) =
    kept_is ∙ ap (min (length added)) (free_is ∙ ap (λ (js : List (List Departure)). room - length js) is.kept) ∙ ap (λ n. min n (room - length (take room jobs))) (sym long)
    in
    record {
      kept = jobs_are
          ∙ ap (λ (js : List (List Departure)). js ++ with_each parent items) is.kept
          ∙ ap (λ (ds : List Departure). take room jobs ++ with_each parent ds) items_are
          ∙ ap (λ (js : List (List Departure)). take room jobs ++ js) (map_some parent kept added ∙ ap (λ n. take n (with_each parent added)) same)
          ∙ sym (kept_of room jobs (with_each parent added));
      count = let all = length-append jobs (with_each parent added) in let before = is.count in omega (arith, count_is, all, long, before);
    }
