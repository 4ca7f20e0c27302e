-- The choices of choosers.
use Rattle.std.proofs.Common.{◌≡◌, ℕ, zero, suc, ◌+◌, ◌%◌, ◌<◌, min, Bool, true, false, cond, nat_lt, nat_eq, ◌&&◌, ◌||◌, List, [], ◌∷◌, length, Option, None, Some, IfSome, IsNone, IsTrue, ◌↔◌, Contains, slice_get, slice_index_or, refl, ◌∙◌, ap, sym, subst, arith, if◌then◌else◌}
use Rattle.std.specs.List.{find, list_any}
use Rattle.std.specs.Option.{option_or}
use Rattle.std.proofs.lemmas.Option.{slice_get-get_or}
use Rattle.std.proofs.lemmas.Bool.Decides.{nat_tests}
use Rattle.rand_pcg.specs.Pcg.{pcg32}
use Rattle.schedule.specs.Schedules as schedules
use Rattle.schedule.specs.Choosers.{Alone, Chooser, Listed, Ranked, RoundRobin, Seeded, Staying, chooser_of_schedule, next, asks, stays, round_robin, next_of, turns_with, after_choice, generator_of, words_of}
use Rattle.schedule.proofs.Priorities.{ranked_is_enabled, some_is_ranked}
use Rattle.schedule.specs.Past.{last_of, consecutive_choices, round_robin_after, choice_after, with_choice}

-- ---- Enabled threads

contains_more : (x y : ℕ) (xs : List ℕ) → Contains xs x → Contains (y ∷ xs) x
contains_more x y xs held = (suc held.0, omega (arith, held.1), held.2)

some_more : (y : ℕ) (xs : List ℕ) (o : Option ℕ) → IfSome o (Contains xs) → IfSome o (Contains (y ∷ xs))
some_more y xs None held = tt
some_more y xs (Some x) held = contains_more x y xs held

contains_first : (x : ℕ) (xs : List ℕ) → Contains (x ∷ xs) x
contains_first x xs = (0, omega arith, refl)

contains_found : (p : ℕ → Bool) (xs : List ℕ) → IfSome (find p xs) (Contains xs)
contains_found p [] = tt
contains_found p (x ∷ xs) =
    elim (p x) as (λ b. IfSome (cond b (Some x) (find p xs)) (Contains (x ∷ xs)))
    [ true ↦ contains_first x xs | false ↦ some_more x xs (find p xs) (contains_found p xs) ]

not_true : false ≡ true → ⊥
not_true h = let P : Bool → Type 0 = λ b. elim b [ true ↦ ⊥ | false ↦ Unit {0} ] in subst P h tt

pub contains_any : (thread : ℕ) (xs : List ℕ) → list_any (λ t. nat_eq t thread) xs ≡ true → Contains xs thread
contains_any thread [] h = absurd (not_true h)
contains_any thread (x ∷ xs) h =
    let cases : (b : Bool) → nat_eq x thread ≡ b → (b || list_any (λ t. nat_eq t thread) xs) ≡ true → Contains (x ∷ xs) thread =
    λ b. elim b as (λ b. nat_eq x thread ≡ b → (b || list_any (λ t. nat_eq t thread) xs) ≡ true → Contains (x ∷ xs) thread) [
      | true ↦ λ e _. let same : x ≡ thread = grind (arith, nat_tests) in subst (Contains (x ∷ xs)) same (contains_first x xs)
      | false ↦ λ _ any. contains_more thread x xs (contains_any thread xs any)
    ] in
    cases (nat_eq x thread) refl h

contains_at : (xs : List ℕ) (k : ℕ) → IfSome (slice_get xs k) (Contains xs)
contains_at [] k = tt
contains_at (x ∷ xs) zero = contains_first x xs
contains_at (x ∷ xs) (suc k) = some_more x xs (slice_get xs k) (contains_at xs k)

some_or : (P : ℕ → Type 0) (a b : Option ℕ) → IfSome a P → IfSome b P → IfSome (option_or a b) P
some_or P None b first second = second
some_or P (Some x) b first second = first

both : (a b : Bool) → (a && b) ≡ true → b ≡ true
both true b h = h
both false b h = absurd (not_true h)

round_is_enabled : (quantum thread turns : ℕ) (enabled : List ℕ) → IfSome (round_robin quantum thread turns enabled) (Contains enabled)
round_is_enabled quantum thread turns enabled =
    let cases : (b : Bool) → stays quantum thread turns enabled ≡ b → IfSome (if b then Some thread else next_of thread enabled) (Contains enabled) =
    λ b. elim b as (λ b. stays quantum thread turns enabled ≡ b → IfSome (if b then Some thread else next_of thread enabled) (Contains enabled)) [
      | true ↦ λ e. contains_any thread enabled (both (nat_lt turns quantum) (list_any (λ t. nat_eq t thread) enabled) e)
      | false ↦ λ _. some_or (Contains enabled) (find (nat_lt thread) enabled) (slice_get enabled 0) (contains_found (nat_lt thread) enabled) (contains_at enabled 0)
    ] in
    cases (stays quantum thread turns enabled) refl

pub chosen_is_enabled : (c : Chooser) (enabled : List ℕ) → IsTrue (asks c) → IfSome (next c enabled).0 (Contains enabled)
chosen_is_enabled (Listed threads) enabled h = absurd (not_true h)
chosen_is_enabled (RoundRobin quantum thread turns) enabled h = round_is_enabled quantum thread turns enabled
chosen_is_enabled (Seeded generator) [] h = tt
chosen_is_enabled (Seeded generator) (t ∷ ts) h = contains_at (t ∷ ts) ((pcg32 generator).0 % length (t ∷ ts))
chosen_is_enabled Alone enabled h = absurd (not_true h)
chosen_is_enabled (Staying before last departures) enabled h = absurd (not_true h)
chosen_is_enabled (Ranked ranking) enabled h = ranked_is_enabled ranking enabled

round_without : (b : Bool) (thread : ℕ) → (if (b && false) then Some thread else next_of thread []) ≡ None
round_without true thread = refl
round_without false thread = refl

round_with : (b : Bool) (thread x : ℕ) (xs : List ℕ) → IsNone (if b then Some thread else next_of thread (x ∷ xs)) → ⊥
round_with true thread x xs h = not_true (sym h)
round_with false thread x xs h =
    let cases : (o : Option ℕ) → IsNone (option_or o (Some x)) → ⊥ = λ o. elim o as (λ o. IsNone (option_or o (Some x)) → ⊥) [ None ↦ λ h. not_true (sym h) | Some y ↦ λ h. not_true (sym h) ] in
    cases (find (nat_lt thread) (x ∷ xs)) h

pub none_is_enabled : (c : Chooser) (enabled : List ℕ) → IsTrue (asks c) → (IsNone (next c enabled).0 ↔ (enabled ≡ []))
none_is_enabled (Listed threads) enabled h = absurd (not_true h)
none_is_enabled (RoundRobin quantum thread turns) [] h =
    (λ _. refl, λ _. rw (round_without (nat_lt turns quantum) thread) refl)
none_is_enabled (RoundRobin quantum thread turns) (x ∷ xs) h =
    (λ none. absurd (round_with (stays quantum thread turns (x ∷ xs)) thread x xs none), λ e. absurd (omega (arith, ap length e)))
none_is_enabled (Seeded generator) [] h = (λ _. refl, λ _. refl)
none_is_enabled (Seeded generator) (t ∷ ts) h =
    let place = (pcg32 generator).0 % length (t ∷ ts) in
    let there : slice_get (t ∷ ts) place ≡ Some (slice_index_or (t ∷ ts) place 0) = slice_get-get_or (t ∷ ts) place 0 (omega arith) in
    (λ none. absurd (not_true (sym (rw there at none))), λ e. absurd (omega (arith, ap length e)))
none_is_enabled Alone enabled h = absurd (not_true h)
none_is_enabled (Staying before last departures) enabled h = absurd (not_true h)
none_is_enabled (Ranked ranking) [] h = (λ _. refl, λ _. refl)
none_is_enabled (Ranked ranking) (t ∷ ts) h = (λ none. absurd (some_is_ranked ranking t ts none), λ e. absurd (omega (arith, ap length e)))

-- ---- Turns in a row

pub opened_behind : (quantum : ℕ) → chooser_of_schedule (schedules.RoundRobin quantum) ≡ round_robin_after quantum []
opened_behind quantum = let e : min quantum 0 ≡ 0 = grind (arith, nat_tests) in ap (RoundRobin quantum 0) (sym e)

capped : (quantum n : ℕ) → nat_lt (min quantum n) quantum ≡ nat_lt n quantum
capped quantum n = grind (arith, nat_tests)

-- A thread that wasn't chosen last has no last consecutive choices.
other_row : (chosen : ℕ) (past : List ℕ) → nat_eq chosen (last_of past) ≡ false → consecutive_choices chosen past ≡ 0
other_row chosen [] e = refl
other_row chosen (t ∷ past) e = let f : nat_eq t chosen ≡ false = grind (arith, nat_tests) in rw f refl

one_more : (quantum n : ℕ) → min quantum (min quantum n + 1) ≡ min quantum (n + 1)
one_more quantum n = grind (arith, nat_tests)

least_one : (quantum : ℕ) → 0 < quantum → 1 ≡ min quantum (0 + 1)
least_one quantum some = grind (arith, nat_tests)

same_thread : (a b : ℕ) → nat_eq a b ≡ true → a ≡ b
same_thread a b e = grind (arith, nat_tests)

itself : (a : ℕ) → nat_eq a a ≡ true
itself a = grind (arith, nat_tests)

turns_behind : (quantum : ℕ) (past : List ℕ) (chosen : ℕ) → 0 < quantum → turns_with quantum (last_of past) (min quantum (consecutive_choices (last_of past) past)) chosen ≡ min quantum (consecutive_choices chosen past + 1)
turns_behind quantum past chosen some =
    let Goal : Bool → Type 0 = λ b. (if b then min quantum (min quantum (consecutive_choices (last_of past) past) + 1) else 1) ≡ min quantum (consecutive_choices chosen past + 1) in
    let cases : (b : Bool) → nat_eq chosen (last_of past) ≡ b → Goal b =
    λ b. elim b as (λ b. nat_eq chosen (last_of past) ≡ b → Goal b) [
      | true ↦ λ e. one_more quantum (consecutive_choices (last_of past) past) ∙ ap (λ t. min quantum (consecutive_choices t past + 1)) (sym (same_thread chosen (last_of past) e))
      | false ↦ λ e. rw (other_row chosen past e) (least_one quantum some)
    ] in
    cases (nat_eq chosen (last_of past)) refl

after_behind : (quantum : ℕ) (past : List ℕ) (chosen : Option ℕ) → 0 < quantum → after_choice quantum (last_of past) (min quantum (consecutive_choices (last_of past) past)) chosen ≡ round_robin_after quantum (with_choice chosen past)
after_behind quantum past None some = refl
after_behind quantum past (Some t) some = rw (itself t) (ap (RoundRobin quantum t) (turns_behind quantum past t some))

same_choice : (quantum thread turns : ℕ) (enabled : List ℕ) → round_robin quantum thread (min quantum turns) enabled ≡ round_robin quantum thread turns enabled
same_choice quantum thread turns enabled =
    ap (λ b. if (b && list_any (λ t. nat_eq t thread) enabled) then Some thread else next_of thread enabled) (capped quantum turns)

pub next_behind : (quantum : ℕ) (past enabled : List ℕ) → 0 < quantum → next (round_robin_after quantum past) enabled ≡ (choice_after quantum past enabled, round_robin_after quantum (with_choice (choice_after quantum past enabled) past))
next_behind quantum past enabled some =
    rw (same_choice quantum (last_of past) (consecutive_choices (last_of past) past) enabled, after_behind quantum past (choice_after quantum past enabled) some) refl

-- ---- Random words

pub demonstrated : words_of 6 (generator_of 42 54) ≡ 0xa15c02b7 ∷ 0x7b47f409 ∷ 0xba1d3330 ∷ 0x83d2f293 ∷ 0xbfa4784b ∷ 0xcbed606e ∷ []
demonstrated = refl
