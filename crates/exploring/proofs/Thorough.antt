-- The levels of an exploration follow each other up to the bounds.
use Rattle.std.proofs.Common.{Bool, Err, List, None, Ok, Option, Result, Some, [], ap, arith, false, length, refl, subst, sym, true, ℕ, suc, zero, ◌&&◌, ◌+◌, ◌-◌, ◌<◌, ◌≤◌, ◌∙◌, ◌∷◌, ◌++◌, ◌≡◌, inl, inr}
use Rattle.std.proofs.lemmas.Bool.{and_parts, cases_lt}
use Rattle.std.proofs.lemmas.Bool.Decides.{nat_tests}
use Rattle.std.proofs.lemmas.List.{length-take}
use Rattle.std.proofs.lemmas.List.Folds.{list_all-append, list_any-append}
use Rattle.std.proofs.lemmas.List.Sums.{sum_by_push}
use Rattle.std.proofs.lemmas.Slice.Zip.{AllZip-long}
use Rattle.std.specs.declared.alloc.Global.{Global}
use Rattle.std.specs.declared.vec.Vec.{Vec}
use Rattle.std.specs.Prelude.{IfSome, IsTrue, is_none, is_ok, is_some, min, nat_eq, nat_le, not, slice_get, take, ◌||◌}
use Rattle.explore_jobs.specs.Fates.{IsFateOf}
use Rattle.explore_jobs.specs.declared.fate.Fate.{Fate}
use Rattle.exploring.proofs.Failures.{some_failing}
use Rattle.exploring.proofs.Searched.{with_fates}
use Rattle.exploring.specs.Counts.{level_of}
use Rattle.exploring.specs.Explorations.{Explored, IsNextLevel, IsOnWay, first_failing, is_good, is_whole, jobs_at, level_in}
use Rattle.exploring.specs.Searches.{IsAfter, IsThoroughAfter, IsThoroughBefore, is_shown_after}
use Rattle.exploring.specs.Thorough.{FollowEachOther, IsNextOf, IsThorough, are_good, are_whole, counts_failing, have_failing, is_followed, runs_of}
use Rattle.exploring.specs.declared.answer.Answer.{Answer}
use Rattle.exploring.specs.declared.answer.Bounds.{Bounds}
use Rattle.exploring.specs.declared.answer.FailingRun.{FailingRun}
use Rattle.exploring.specs.declared.answer.LevelRuns.{LevelRuns}
use Rattle.exploring.specs.declared.answer.Search.{Search}
use Rattle.exploring.specs.declared.level.Level.{Level}
use Rattle.jvms_machine.specs.Opening.{StartFault, start_of_entry}
use Rattle.jvms_machine.specs.Start.{Start}

-- ---- What doesn't depend on the exploration

-- What holds of each element and those before it still holds with one more.
pushed : {X : Type 0} (Q : List X → X → Type 0) (xs : List X) (x : X) → ((n : ℕ) → IfSome (slice_get xs n) (Q (take n xs))) → Q xs x → (n : ℕ) → IfSome (slice_get (xs ++ x ∷ []) n) (Q (take n (xs ++ x ∷ [])))
pushed Q [] x each here zero = here
pushed Q [] x each here (suc n) = tt
pushed Q (y ∷ ys) x each here zero = each zero
pushed Q (y ∷ ys) x each here (suc n) = pushed (λ before. Q (y ∷ before)) ys x (λ n. each (suc n)) here n

or_true : (a : Bool) → (a || true) ≡ true
or_true true = refl
or_true false = refl

none_is : {X : Type 0} (o : Option X) → is_none o ≡ not (is_some o)
none_is None = refl
none_is (Some x) = refl

-- A run fails at this level or below.
failing_by : (w h f : Bool) → w ≡ true → is_shown_after h (w && not h) f ≡ (h || (f || false))
failing_by true true f is = refl
failing_by true false true is = refl
failing_by true false false is = refl
failing_by false h f is = absurd (cc)

whole_by : (w t : Bool) → w ≡ true → t ≡ (w && (t && true))
whole_by true true is = refl
whole_by true false is = refl
whole_by false t is = absurd (cc)

good_by : (w h t f : Bool) → ((w && not h) && t && not f) ≡ ((w && (t && true)) && not (h || (f || false)))
good_by false h t f = refl
good_by true true true f = refl
good_by true true false f = refl
good_by true false true true = refl
good_by true false true false = refl
good_by true false false f = refl

in_order : (a b c : Bool) → (a && b && c) ≡ (a && (b && c))
in_order true b c = refl
in_order false b c = refl

next_number : (n m many : ℕ) → many ≡ n + 1 → nat_eq n m ≡ nat_eq many (m + 1)
next_number n m many is = grind (arith, nat_tests)

spent : (runs made left more : ℕ) → left ≡ runs - made → left - more ≡ runs - (made + more)
spent runs made left more is = omega (arith, is)

started : (r : Result Start StartFault) → IsTrue (is_ok r) → (start : Start) × (r ≡ Ok start)
started (Ok start) is = (start, refl)
started (Err why) is = absurd (cc)

-- ---- Level 0

pub thorough_begins : (bounds : Bounds) (search : Search) → search.levels.items ≡ [] → search.left ≡ bounds.runs → search.failing ≡ None → search.exploration.is_good_below ≡ true → search.exploration.fates ≡ []
    → length search.exploration.jobs.jobs ≡ search.exploration.count → search.exploration.count ≤ 1 → IsThoroughBefore bounds search
thorough_begins bounds search none left_is failing_is good_is fates_are all_kept few =
    let first : nat_le 0 bounds.departures ≡ true = grind (arith, nat_tests) in
    let levels : FollowEachOther bounds [] = λ level. tt in
    let followed : is_followed bounds [] ≡ true = ap (λ b. b && true && (bounds.all || true)) first ∙ or_true bounds.all in
    let all : bounds.runs ≡ bounds.runs - 0 = omega arith in
    record {
      so_far = record {
        levels = subst (FollowEachOther bounds) (sym none) levels;
        left = left_is ∙ all ∙ ap (λ xs. bounds.runs - runs_of xs) (sym none);
        failing = ap (λ (o : Option FailingRun). is_some o) failing_is ∙ ap have_failing (sym none);
      };
      next = ap (is_followed bounds) none ∙ followed;
      good = good_is ∙ ap are_good (sym none);
      fates = fates_are;
      kept = λ some. omega (arith, some, all_kept, few);
    }

-- ---- The level is run

made_by : (left count jobs fates : ℕ) → fates ≤ jobs → (0 < left → jobs ≡ min count left) → (0 < left → jobs ≤ fates) → (left ≡ 0 → fates ≡ 0) → fates ≡ min count left
made_by left count jobs fates within kept all none =
    elim (cases_lt 0 left) [
      | inl some ↦ let same = kept some in let most = all some in omega (arith, within, same, most)
      | inr out ↦ let over : left ≡ 0 = omega (arith, out) in let same = none over in omega (arith, over, same)
    ]

-- As many jobs were run as there are, or as could still be run.
pub all_made : (e : Explored) (left : ℕ) → IsOnWay e → (0 < left → length e.jobs.jobs ≡ min e.count left) → (0 < left → length e.jobs.jobs ≤ length e.fates) → (left ≡ 0 → e.fates ≡ []) → length e.fates ≡ min e.count left
all_made e left way kept all none =
    let long = AllZip-long (IsFateOf e.program e.plan) (take (length e.fates) e.jobs.jobs) e.fates way.fates in
    let part = length-take (length e.fates) e.jobs.jobs in
    made_by left e.count (length e.jobs.jobs) (length e.fates) (omega (arith, long, part)) kept all (λ over. ap length (none over))

-- The level is appended to those below.
follow_on : (bounds : Bounds) (old new : Search) (runs : LevelRuns) → IsThoroughBefore bounds old → new.levels.items ≡ old.levels.items ++ runs ∷ [] → runs.level.runs ≡ min runs.jobs old.left → FollowEachOther bounds new.levels.items
follow_on bounds old new runs before levels_are made =
    let next : IsNextOf bounds old.levels.items runs = record { follows = before.next; made = made ∙ ap (min runs.jobs) before.so_far.left } in
    subst (FollowEachOther bounds) (sym levels_are) (pushed (IsNextOf bounds) old.levels.items runs before.so_far.levels next)

whole_of : (bounds : Bounds) (levels : List LevelRuns) → is_followed bounds levels ≡ true → are_whole levels ≡ true
whole_of bounds levels next =
    (and_parts (nat_le (length levels) bounds.departures) (are_whole levels) (and_parts (nat_le (length levels) bounds.departures && are_whole levels) (bounds.all || not (have_failing levels)) next).0).1

pub thorough_after : (bounds : Bounds) (old new : Search) (runs : LevelRuns) (fates : List Fate) → IsThoroughBefore bounds old → new.exploration ≡ with_fates old.exploration fates → new.levels.items ≡ old.levels.items ++ runs ∷ []
    → runs.level ≡ level_of (level_in old.exploration) fates → runs.jobs ≡ old.exploration.count → new.left ≡ old.left - length fates → length fates ≡ min old.exploration.count old.left
    → is_some new.failing ≡ is_shown_after (is_some old.failing) old.exploration.is_good_below (is_some (first_failing fates)) → IsThoroughAfter bounds new
thorough_after bounds old new runs fates before e_is levels_are counts_are jobs_are left_is made failing_is =
    let xs = old.levels.items in
    let many : runs.level.runs ≡ length fates = ap (λ (l : Level). l.runs) counts_are in
    let w = are_whole xs in
    let h = have_failing xs in
    let f = counts_failing runs.level in
    let t = nat_eq runs.level.runs runs.jobs in
    let all_whole : w ≡ true = whole_of bounds xs before.next in
    let below : old.exploration.is_good_below ≡ (w && not h) = before.good in
    let some : is_some (first_failing fates) ≡ f = some_failing (level_in old.exploration) fates ∙ ap counts_failing (sym counts_are) in
    let none : is_none (first_failing fates) ≡ not f = none_is (first_failing fates) ∙ ap not some in
    let any : have_failing new.levels.items ≡ (h || (f || false)) = ap have_failing levels_are ∙ list_any-append (λ (r : LevelRuns). counts_failing r.level) xs (runs ∷ []) in
    let whole : are_whole new.levels.items ≡ (w && (t && true)) = ap are_whole levels_are ∙ list_all-append (λ (r : LevelRuns). nat_eq r.level.runs r.jobs) xs (runs ∷ []) in
    let here : is_whole new.exploration ≡ t = ap is_whole e_is ∙ ap (λ n. nat_eq n old.exploration.count) (sym many) ∙ ap (nat_eq runs.level.runs) (sym jobs_are) in
    record {
      so_far = record {
        levels = follow_on bounds old new runs before levels_are (many ∙ made ∙ ap (λ n. min n old.left) (sym jobs_are));
        left = left_is
            ∙ spent bounds.runs (runs_of xs) old.left (length fates) before.so_far.left
            ∙ ap (λ n. bounds.runs - (runs_of xs + n)) (sym many)
            ∙ ap (λ n. bounds.runs - n) (sym (ap runs_of levels_are ∙ sum_by_push (λ (r : LevelRuns). r.level.runs) xs runs));
        failing = failing_is
            ∙ ap (λ b. is_shown_after b old.exploration.is_good_below (is_some (first_failing fates))) before.so_far.failing
            ∙ ap (λ b. is_shown_after h b (is_some (first_failing fates))) below
            ∙ ap (is_shown_after h (w && not h)) some
            ∙ failing_by w h f all_whole
            ∙ sym any;
      };
      whole = here ∙ whole_by w t all_whole ∙ sym whole;
      good = ap is_good e_is
          ∙ ap (λ b. b && is_whole (with_fates old.exploration fates) && is_none (first_failing fates)) below
          ∙ ap (λ b. (w && not h) && b && is_none (first_failing fates)) (sym (ap is_whole e_is) ∙ here)
          ∙ ap (λ b. (w && not h) && t && b) none
          ∙ good_by w h t f
          ∙ ap (λ b. b && not (h || (f || false))) (sym whole)
          ∙ ap (λ b. are_whole new.levels.items && not b) (sym any);
    }

-- ---- The next level

-- A level follows just where the last one is whole and none fails so far, or all levels are asked for.
pub followed_by : (bounds : Bounds) (search : Search) (b : Bool) → IsThoroughAfter bounds search → nat_le (length search.levels.items) bounds.departures ≡ b
    → is_followed bounds search.levels.items ≡ (b && (is_whole search.exploration && (bounds.all || is_none search.failing)))
followed_by bounds search b after few =
    ap (λ x. x && are_whole search.levels.items && (bounds.all || not (have_failing search.levels.items))) few
    ∙ ap (λ x. b && x && (bounds.all || not (have_failing search.levels.items))) (sym after.whole)
    ∙ ap (λ x. b && is_whole search.exploration && (bounds.all || x)) (sym (none_is search.failing ∙ ap not after.so_far.failing))
    ∙ in_order b (is_whole search.exploration) (bounds.all || is_none search.failing)

pub goes_on : (bounds : Bounds) (search : Search) → IsThoroughAfter bounds search → length search.levels.items ≤ bounds.departures → (is_whole search.exploration && (bounds.all || is_none search.failing)) ≡ true → is_followed bounds search.levels.items ≡ true
goes_on bounds search after few on = let within : nat_le (length search.levels.items) bounds.departures ≡ true = grind (arith, nat_tests) in followed_by bounds search true after within ∙ on

pub stops : (bounds : Bounds) (search : Search) → IsThoroughAfter bounds search → (is_whole search.exploration && (bounds.all || is_none search.failing)) ≡ false → is_followed bounds search.levels.items ≡ false
stops bounds search after off = by (nat_le (length search.levels.items) bounds.departures) refl
  where
    by : (b : Bool) → nat_le (length search.levels.items) bounds.departures ≡ b → is_followed bounds search.levels.items ≡ false
    by true few = followed_by bounds search true after few ∙ off
    by false few = followed_by bounds search false after few

pub ends : (bounds : Bounds) (search : Search) → IsThoroughAfter bounds search → bounds.departures < length search.levels.items → is_followed bounds search.levels.items ≡ false
ends bounds search after many = let over : nat_le (length search.levels.items) bounds.departures ≡ false = grind (arith, nat_tests) in followed_by bounds search false after over

kept_of : (e : Explored) (start : Start) (room : ℕ) → e.jobs.jobs ≡ take room (jobs_at e.program e.plan start (level_in e)) → e.count ≡ length (jobs_at e.program e.plan start (level_in e)) → length e.jobs.jobs ≡ min e.count room
kept_of e start room jobs_are count_is =
    let part = length-take room (jobs_at e.program e.plan start (level_in e)) in
    let many = ap length jobs_are in
    omega (arith, part, many, count_is)

pub thorough_next : (bounds : Bounds) (old new : Search) → IsThoroughAfter bounds old → is_followed bounds old.levels.items ≡ true → IsNextLevel old.left old.exploration new.exploration → IsOnWay new.exploration
    → new.levels ≡ old.levels → new.failing ≡ old.failing → new.left ≡ old.left → IsThoroughBefore bounds new
thorough_next bounds old new after on next way levels_are failing_is left_is =
    let items : new.levels.items ≡ old.levels.items = ap (λ (v : Vec LevelRuns Global). v.items) levels_are in
    let from = started (start_of_entry new.exploration.program new.exploration.plan.limits new.exploration.plan.entry) way.fits in
    record {
      so_far = record {
        levels = subst (FollowEachOther bounds) (sym items) after.so_far.levels;
        left = left_is ∙ after.so_far.left ∙ ap (λ xs. bounds.runs - runs_of xs) (sym items);
        failing = ap (λ (o : Option FailingRun). is_some o) failing_is ∙ after.so_far.failing ∙ ap have_failing (sym items);
      };
      next = ap (is_followed bounds) items ∙ on;
      good = next.below ∙ after.good ∙ ap are_good (sym items);
      fates = next.fates;
      kept = λ some. kept_of new.exploration from.0 old.left (next.jobs from.0 from.1) (next.count from.0 from.1) ∙ ap (min new.exploration.count) (sym left_is);
    }

-- ---- The answer

pub thorough_answer : (bounds : Bounds) (search : Search) (answer : Answer) → IsAfter search → IsThoroughAfter bounds search → is_followed bounds search.levels.items ≡ false → answer.levels ≡ search.levels → answer.failing ≡ search.failing
    → answer.is_covered ≡ (nat_eq (level_in search.exploration) bounds.departures && is_good search.exploration) → IsThorough bounds answer
thorough_answer bounds search answer counted after last levels_are failing_is covered_is =
    let items : answer.levels.items ≡ search.levels.items = ap (λ (v : Vec LevelRuns Global). v.items) levels_are in
    record {
      levels = subst (FollowEachOther bounds) (sym items) after.so_far.levels;
      last = ap (is_followed bounds) items ∙ last;
      failing = ap (λ (o : Option FailingRun). is_some o) failing_is ∙ after.so_far.failing ∙ ap have_failing (sym items);
      covered = covered_is
          ∙ ap (λ b. b && is_good search.exploration) (next_number (level_in search.exploration) bounds.departures (length search.levels.items) counted.counted)
          ∙ ap (λ b. nat_eq (length search.levels.items) (bounds.departures + 1) && b) after.good
          ∙ ap (λ xs. nat_eq (length xs) (bounds.departures + 1) && are_good xs) (sym items);
    }
