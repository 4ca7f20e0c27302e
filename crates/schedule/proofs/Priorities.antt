-- The priorities of threads, and their changes.
use Rattle.std.proofs.Common.{◌≡◌, ◌≢◌, ℕ, zero, suc, ◌+◌, ◌-◌, ◌%◌, ◌<◌, ◌≤◌, Bool, true, false, cond, nat_lt, nat_eq, List, [], ◌∷◌, ◌++◌, length, take, set, ◌⊎◌, inl, inr, Option, None, Some, IfSome, IsNone, Contains, refl, ap, sym, ◌∙◌, arith, append_assoc}
use Rattle.std.specs.List.{All}
use Rattle.std.proofs.lemmas.Bool.Decides.{nat_tests}
use Rattle.std.proofs.lemmas.List.{length-take, length-take-le, take_more_set}
use Rattle.std.proofs.lemmas.List.Elements.{All-cons, All-nil}
use Rattle.std.proofs.lemmas.Option.{none-some}
use Rattle.rand_pcg.specs.Lcg.{Lcg, state_after}
use Rattle.rand_pcg.specs.Pcg.{pcg32}
use Rattle.schedule.specs.declared.ranked.Change.{Change}
use Rattle.schedule.specs.Choosers.{Ranked, Ranking, after_turn, after_words, by_priority, changes_at, due, generator_of, higher, highest, highest_from, left_after, moved_to, next, priority, priority_after, ranking_of, with_choices, words_of}
use Rattle.schedule.specs.Positions.{due_at, left_after_turns}

-- ---- The highest thread

-- What holds for the best thread before, and for all that come, holds for the highest one.
highest_is : (P : ℕ → Type 0) (f : ℕ → ℕ) (best : Option ℕ) (xs : List ℕ) → IfSome best P → ((x : ℕ) → Contains xs x → P x) → IfSome (highest_from f best xs) P
highest_is P f best [] first all = first
highest_is P f best (x ∷ xs) first all = highest_is P f (Some (higher f best x)) xs (one best first) (λ y held. all y (suc held.0, omega (arith, held.1), held.2))
  where
    here : P x
    here = all x (0, omega arith, refl)

    one : (b : Option ℕ) → IfSome b P → P (higher f b x)
    one None is = here
    one (Some b) is = elim (nat_lt (f b) (f x)) as (λ w. P (cond w x b)) [ true ↦ here | false ↦ is ]

-- The highest thread is one of the threads.
pub highest_is_one : (f : ℕ → ℕ) (xs : List ℕ) → IfSome (highest_from f None xs) (Contains xs)
highest_is_one f xs = highest_is (Contains xs) f None xs tt (λ x held. held)

-- There is a highest thread if there is a thread.
there_is_one : (f : ℕ → ℕ) (b : ℕ) (xs : List ℕ) → IsNone (highest_from f (Some b) xs) → ⊥
there_is_one f b [] none = let never : true ≡ false → ⊥ = λ e. cc in never none
there_is_one f b (x ∷ xs) none = there_is_one f (higher f (Some b) x) xs none

better_is_higher : (f : ℕ → ℕ) (b x y : ℕ) → (f y ≤ f b) ⊎ (f y ≤ f x) → f y ≤ f (higher f (Some b) x)
better_is_higher f b x y is = by_order (nat_lt (f b) (f x)) refl
  where
    by_order : (w : Bool) → nat_lt (f b) (f x) ≡ w → f y ≤ f (cond w x b)
    by_order true less = let more : f b < f x = grind (arith, nat_tests) in elim is as (λ _. f y ≤ f x) [ inl first ↦ omega arith | inr second ↦ second ]
    by_order false not_less = let most : f x ≤ f b = grind (arith, nat_tests) in elim is as (λ _. f y ≤ f b) [ inl first ↦ first | inr second ↦ omega arith ]

-- A thread that isn't above the best one so far isn't above the highest one.
none_is_above : (f : ℕ → ℕ) (b y : ℕ) (xs : List ℕ) → f y ≤ f b → IfSome (highest_from f (Some b) xs) (λ h. f y ≤ f h)
none_is_above f b y [] is = is
none_is_above f b y (x ∷ xs) is = none_is_above f (higher f (Some b) x) y xs (better_is_higher f b x y (inl is))

with_first : (f : ℕ → ℕ) (x : ℕ) (xs : List ℕ) (o : Option ℕ) → IfSome o (λ h. f x ≤ f h) → IfSome o (λ h. All (λ y. f y ≤ f h) xs)
    → IfSome o (λ h. All (λ y. f y ≤ f h) (x ∷ xs))
with_first f x xs None first others = tt
with_first f x xs (Some h) first others = All-cons (λ y. f y ≤ f h) x xs first others

-- None of the threads is above the highest one.
all_are_below : (f : ℕ → ℕ) (b : ℕ) (xs : List ℕ) → IfSome (highest_from f (Some b) xs) (λ h. All (λ y. f y ≤ f h) xs)
all_are_below f b [] = All-nil (λ y. f y ≤ f b)
all_are_below f b (x ∷ xs) =
    let best : ℕ = higher f (Some b) x in
    with_first f x xs (highest_from f (Some best) xs) (none_is_above f best x xs (better_is_higher f b x x (inr (omega arith)))) (all_are_below f best xs)

highest_of_all : (f : ℕ → ℕ) (xs : List ℕ) → IfSome (highest_from f None xs) (λ h. All (λ y. f y ≤ f h) xs)
highest_of_all f [] = tt
highest_of_all f (x ∷ xs) = with_first f x xs (highest_from f (Some x) xs) (none_is_above f x x xs (omega arith)) (all_are_below f x xs)

pub highest_is_highest : (r : Ranking) (threads : List ℕ) → IfSome (highest r threads) (λ t. Contains threads t × All (λ other. priority r other ≤ priority r t) threads)
highest_is_highest r threads = both (highest r threads) (highest_is_one (priority r) threads) (highest_of_all (priority r) threads)
  where
    both : (o : Option ℕ) → IfSome o (Contains threads) → IfSome o (λ h. All (λ y. priority r y ≤ priority r h) threads)
        → IfSome o (λ t. Contains threads t × All (λ other. priority r other ≤ priority r t) threads)
    both None one all = tt
    both (Some t) one all = (one, all)

-- ---- The choice

pub ranked_is_enabled : (r : Ranking) (enabled : List ℕ) → IfSome (next (Ranked r) enabled).0 (Contains enabled)
ranked_is_enabled r enabled = by_highest (highest r enabled) (highest_is_one (priority r) enabled)
  where
    by_highest : (o : Option ℕ) → IfSome o (Contains enabled) → IfSome (by_priority r o).0 (Contains enabled)
    by_highest None is = tt
    by_highest (Some t) is = is

pub some_is_ranked : (r : Ranking) (t : ℕ) (ts : List ℕ) → IsNone (next (Ranked r) (t ∷ ts)).0 → ⊥
some_is_ranked r t ts = by_highest (highest r (t ∷ ts)) (there_is_one (priority r) t ts)
  where
    by_highest : (o : Option ℕ) → (IsNone o → ⊥) → IsNone (by_priority r o).0 → ⊥
    by_highest None some none = some refl
    by_highest (Some h) some none = some none

-- ---- Counted turns

pub ranked_stays : (times chosen : ℕ) (r : Ranking) → with_choices times chosen (Ranked r) ≡ Ranked r
unfolding with_choices
ranked_stays zero chosen r = refl
ranked_stays (suc times) chosen r = ranked_stays times chosen r

-- ---- Words

-- The changes that are drawn, one more each time.
pub drawn_more : (turns : ℕ) (xs : List Change) (place count word : ℕ) (g later : Lcg) (all : List Change) → (word, later) ≡ pcg32 g → place < count → count ≡ length xs
    → take place xs ++ changes_at place turns (words_of (count - place) g) ≡ all
    → take (place + 1) (set xs place (record { turns = word % turns; priority = place })) ++ changes_at (place + 1) turns (words_of (count - (place + 1)) later) ≡ all
drawn_more turns xs place count word g later all one inside fits is =
    let change : ℕ → Change = λ w. record { turns = w % turns; priority = place } in
    let left : ℕ = count - (place + 1) in
    let rest : List Change = changes_at (place + 1) turns (words_of left later) in
    let more : count - place ≡ suc left = omega arith in
    let drawn : changes_at place turns (words_of (count - place) g) ≡ change word ∷ rest =
    ap (λ n. changes_at place turns (words_of n g)) more ∙ ap (λ p. change p.0 ∷ changes_at (place + 1) turns (words_of left p.1)) (sym one) in
    ap (λ zs. zs ++ rest) (take_more_set xs place (change word) (omega arith)) ∙ append_assoc (take place xs) (change word ∷ []) rest
    ∙ ap (λ zs. take place xs ++ zs) (sym drawn) ∙ is

-- The words that are left are fewer by one.
pub one_word_less : (count place word : ℕ) (g later : Lcg) → (word, later) ≡ pcg32 g → place < count → after_words (count - place) g ≡ after_words (count - (place + 1)) later
unfolding state_after
one_word_less count place word g later one inside =
    let more : count - place ≡ suc (count - (place + 1)) = omega arith in
    ap (λ n. after_words n g) more ∙ ap (λ p. after_words (count - (place + 1)) p.1) (sym one)

-- After no word the generator is the same.
pub no_word_left : (count place : ℕ) (g : Lcg) → count ≤ place → after_words (count - place) g ≡ g
unfolding state_after
no_word_left count place g all = let none : count - place ≡ 0 = omega arith in ap (λ n. after_words n g) none

-- ---- Changes that are left

left_are_fewer : (ws : List Change) → length (left_after ws) ≤ length ws
left_are_fewer [] = omega arith
left_are_fewer (c ∷ ws) = by_turns (nat_eq c.turns 0) (left_are_fewer ws)
  where
    kept : Change
    kept = record { turns = c.turns - 1; priority = c.priority }

    by_turns : (b : Bool) → length (left_after ws) ≤ length ws → length (cond b (left_after ws) (kept ∷ left_after ws)) ≤ suc (length ws)
    by_turns true fewer = omega (arith, fewer)
    by_turns false fewer = omega (arith, fewer)

one_is_left_out : (ws : List Change) (given : ℕ) → due ws ≡ Some given → length (left_after ws) < length ws
one_is_left_out [] given is = absurd (none-some given is)
one_is_left_out (c ∷ ws) given is = by_turns (nat_eq c.turns 0) is (left_are_fewer ws) (one_is_left_out ws given)
  where
    kept : Change
    kept = record { turns = c.turns - 1; priority = c.priority }

    by_turns : (b : Bool) → cond b (Some c.priority) (due ws) ≡ Some given → length (left_after ws) ≤ length ws → (due ws ≡ Some given → length (left_after ws) < length ws)
        → length (cond b (left_after ws) (kept ∷ left_after ws)) < suc (length ws)
    by_turns true here fewer rest = omega (arith, fewer)
    by_turns false here fewer rest = omega (arith, rest here)

-- Fewer changes are left after a turn if one was due.
pub fewer_left : (changes kept : List Change) (left count given : ℕ) → length kept ≡ length (take left changes) → count ≤ length (take left changes)
    → take count kept ≡ left_after (take left changes) → due (take left changes) ≡ Some given → count < left
fewer_left changes kept left count given same most is due_is =
    let number : length (left_after (take left changes)) ≡ count = sym (ap length is) ∙ length-take-le count kept (omega arith) in
    let whole = length-take left changes in
    let fewer = one_is_left_out (take left changes) given due_is in
    omega (arith, whole, fewer)

-- ---- Laws

-- A change gives its thread the priority of the change.
pub moved_to_it : (r : Ranking) (thread given : ℕ) → due r.changes ≡ Some given → priority (after_turn r thread) thread ≡ given
moved_to_it r thread given due_is = let same : nat_eq thread thread ≡ true = grind (arith, nat_tests) in rw (due_is, same) refl

-- All other priorities stay.
pub others_stay : (r : Ranking) (thread other : ℕ) → other ≢ thread → priority (after_turn r thread) other ≡ priority r other
others_stay r thread other differ = by_due (due r.changes)
  where
    by_due : (o : Option ℕ) → priority_after (moved_to o thread r.moved) r.least r.generator other ≡ priority_after r.moved r.least r.generator other
    by_due None = refl
    by_due (Some given) = let not_same : nat_eq thread other ≡ false = grind (arith, nat_tests) in rw not_same refl

low_changes : (turns from most : ℕ) (words : List ℕ) → from + length words ≤ most → All (λ (c : Change). c.priority < most) (changes_at from turns words)
low_changes turns from most [] fits = All-nil (λ (c : Change). c.priority < most)
low_changes turns from most (word ∷ words) fits =
    All-cons (λ (c : Change). c.priority < most) (record { turns = word % turns; priority = from }) (changes_at (from + 1) turns words) (omega arith)
    (low_changes turns (from + 1) most words (omega arith))

number_of_words : (count : ℕ) (g : Lcg) → length (words_of count g) ≡ count
number_of_words zero g = refl
number_of_words (suc count) g = ap suc (number_of_words count (pcg32 g).1)

-- Changes give priorities below the least one of a thread that wasn't moved.
pub below_least : (state stream depth turns : ℕ) → All (λ (c : Change). c.priority < (ranking_of state stream depth turns).least) (ranking_of state stream depth turns).changes
below_least state stream depth turns =
    let all : length (words_of (depth - 1) (generator_of state stream)) ≡ depth - 1 = number_of_words (depth - 1) (generator_of state stream) in
    low_changes turns 0 (depth - 1) (words_of (depth - 1) (generator_of state stream)) (omega arith)

pub above_least : (state stream depth turns thread : ℕ) → (ranking_of state stream depth turns).least ≤ priority (ranking_of state stream depth turns) thread
above_least state stream depth turns thread = omega arith

one_turn_later : (turns : ℕ) (changes : List Change) → due_at turns (left_after changes) ≡ due_at (suc turns) changes
one_turn_later turns [] = refl
one_turn_later turns (c ∷ changes) = by_turns c.turns (one_turn_later turns changes)
  where
    by_turns : (n : ℕ) → due_at turns (left_after changes) ≡ due_at (suc turns) changes
        → due_at turns (cond (nat_eq n 0) (left_after changes) (record { turns = n - 1; priority = c.priority } ∷ left_after changes))
        ≡ cond (nat_eq n (suc turns)) (Some c.priority) (due_at (suc turns) changes)
    by_turns zero rest = let other : nat_eq 0 (suc turns) ≡ false = grind (arith, nat_tests) in rw other rest
    by_turns (suc n) rest =
        let later : nat_eq (suc n) 0 ≡ false = grind (arith, nat_tests) in
        let same : nat_eq (suc n - 1) turns ≡ nat_eq (suc n) (suc turns) = grind (arith, nat_tests) in
        rw (later, same, rest) refl

-- A change is due after as many turns as its position says.
pub due_after : (turns : ℕ) (changes : List Change) → due (left_after_turns turns changes) ≡ due_at turns changes
due_after zero changes = refl
due_after (suc turns) changes = due_after turns (left_after changes) ∙ one_turn_later turns changes
