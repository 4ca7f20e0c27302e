-- Numbers in rising order, and the first of them that pass a test.
use Rattle.std.proofs.Common.{◌≡◌, ℕ, zero, suc, ◌+◌, ◌-◌, ◌<◌, ◌≤◌, Bool, true, false, cond, nat_lt, nat_le, nat_eq, ◌&&◌, ◌||◌, List, [], ◌∷◌, ◌++◌, Option, None, Some, slice_get, refl, ◌∙◌, ap, arith}
use Rattle.std.specs.List.{filter, find, list_any, range_with_len}
use Rattle.std.specs.Option.{option_or}
use Rattle.std.proofs.lemmas.List.Elements.{filter-append}
use Rattle.std.proofs.lemmas.Bool.Decides.{nat_tests}
use Rattle.schedule.specs.Choosers.{enabled_of, next_of, stays}

pub range_more : (a b : ℕ) → a < b → range_with_len a (b - a) ≡ a ∷ range_with_len (a + 1) (b - (a + 1))
range_more a b less = let e : b - a ≡ suc (b - (a + 1)) = omega arith in rw e refl

pub range_none : (a b : ℕ) → b ≤ a → range_with_len a (b - a) ≡ []
range_none a b most = let e : b - a ≡ 0 = omega arith in rw e refl

pub range-+ : (a m n : ℕ) → range_with_len a (m + n) ≡ range_with_len a m ++ range_with_len (a + m) n
range-+ a zero n = let e : 0 + n ≡ n = omega arith in let f : a + 0 ≡ a = omega arith in rw (e, f) refl
range-+ a (suc m) n =
    let e : suc m + n ≡ suc (m + n) = omega arith in
    let f : a + suc m ≡ a + 1 + m = omega arith in
    rw (e, f, range-+ (a + 1) m n) refl

pub find-append : {X : Type 0} (p : X → Bool) (xs ys : List X) → find p (xs ++ ys) ≡ option_or (find p xs) (find p ys)
find-append p [] ys = refl
find-append p (x ∷ xs) ys =
    elim (p x) as (λ b. cond b (Some x) (find p (xs ++ ys)) ≡ option_or (cond b (Some x) (find p xs)) (find p ys))
    [ true ↦ refl | false ↦ find-append p xs ys ]

-- The first element that passes is the first of those that pass.
pub first-filter : {X : Type 0} (p : X → Bool) (xs : List X) → slice_get (filter p xs) 0 ≡ find p xs
first-filter p [] = refl
first-filter p (x ∷ xs) =
    elim (p x) as (λ b. slice_get (cond b (x ∷ filter p xs) (filter p xs)) 0 ≡ cond b (Some x) (find p xs))
    [ true ↦ refl | false ↦ first-filter p xs ]

-- No number up to a thread is above it.
pub find_above_none : (p : ℕ → Bool) (thread a n : ℕ) → a + n ≤ thread + 1 → find (nat_lt thread) (filter p (range_with_len a n)) ≡ None
find_above_none p thread a zero most = refl
find_above_none p thread a (suc n) most =
    let rest : find (nat_lt thread) (filter p (range_with_len (a + 1) n)) ≡ None = find_above_none p thread (a + 1) n (omega arith) in
    let here : nat_lt thread a ≡ false = grind (arith, nat_tests) in
    elim (p a) as (λ b. find (nat_lt thread) (cond b (a ∷ filter p (range_with_len (a + 1) n)) (filter p (range_with_len (a + 1) n))) ≡ None)
    [ true ↦ rw (here, rest) refl | false ↦ rest ]

-- All numbers above a thread are above it.
pub find_above_all : (p : ℕ → Bool) (thread a n : ℕ) → thread < a → find (nat_lt thread) (filter p (range_with_len a n)) ≡ find p (range_with_len a n)
find_above_all p thread a zero above = refl
find_above_all p thread a (suc n) above =
    let rest : find (nat_lt thread) (filter p (range_with_len (a + 1) n)) ≡ find p (range_with_len (a + 1) n) = find_above_all p thread (a + 1) n (omega arith) in
    let here : nat_lt thread a ≡ true = grind (arith, nat_tests) in
    elim (p a) as (λ b. find (nat_lt thread) (cond b (a ∷ filter p (range_with_len (a + 1) n)) (filter p (range_with_len (a + 1) n))) ≡ cond b (Some a) (find p (range_with_len (a + 1) n)))
    [ true ↦ rw here refl | false ↦ rest ]

option_or_again : {X : Type 0} (a b : Option X) → option_or a (option_or b a) ≡ option_or a b
option_or_again None None = refl
option_or_again None (Some y) = refl
option_or_again (Some x) b = refl

next_of_sum : (p : ℕ → Bool) (thread n : ℕ) → next_of thread (enabled_of p (thread + 1 + n)) ≡ option_or (find p (range_with_len (thread + 1) n)) (find p (range_with_len 0 (thread + 1)))
next_of_sum p thread n =
    let zero_first : 0 + (thread + 1) ≡ thread + 1 = omega arith in
    let parts : range_with_len 0 (thread + 1 + n) ≡ range_with_len 0 (thread + 1) ++ range_with_len (thread + 1) n =
    range-+ 0 (thread + 1) n ∙ rw zero_first refl in
    let above : find (nat_lt thread) (enabled_of p (thread + 1 + n)) ≡ find p (range_with_len (thread + 1) n) =
    rw (
      parts,
      filter-append p (range_with_len 0 (thread + 1)) (range_with_len (thread + 1) n),
      find-append (nat_lt thread) (filter p (range_with_len 0 (thread + 1))) (filter p (range_with_len (thread + 1) n)),
      find_above_none p thread 0 (thread + 1) (omega arith),
      find_above_all p thread (thread + 1) n (omega arith),
    ) refl in
    let least : slice_get (enabled_of p (thread + 1 + n)) 0 ≡ option_or (find p (range_with_len 0 (thread + 1))) (find p (range_with_len (thread + 1) n)) =
    first-filter p (range_with_len 0 (thread + 1 + n)) ∙ rw (parts, find-append p (range_with_len 0 (thread + 1)) (range_with_len (thread + 1) n)) refl in
    rw (above, least) (option_or_again (find p (range_with_len (thread + 1) n)) (find p (range_with_len 0 (thread + 1))))

-- The next thread of those that pass: the first one above the thread, else the first one up to it.
pub next_of_within : (p : ℕ → Bool) (thread count : ℕ) → thread < count → next_of thread (enabled_of p count) ≡ option_or (find p (range_with_len (thread + 1) (count - (thread + 1)))) (find p (range_with_len 0 (thread + 1)))
next_of_within p thread count less =
    let e : thread + 1 + (count - (thread + 1)) ≡ count = omega arith in
    rw e at (next_of_sum p thread (count - (thread + 1)))

pub next_of_beyond : (p : ℕ → Bool) (thread count : ℕ) → count ≤ thread → next_of thread (enabled_of p count) ≡ find p (range_with_len 0 count)
next_of_beyond p thread count most = rw (find_above_none p thread 0 count (omega arith), first-filter p (range_with_len 0 count)) refl

-- One step of `any_of_range`.
any_of_step : (here there rest : Bool) (thread a n : ℕ) → (a ≡ thread → here ≡ there) → rest ≡ ((nat_le (a + 1) thread && nat_lt thread (a + 1 + n)) && there) → cond here (nat_eq a thread || rest) rest ≡ ((nat_le a thread && nat_lt thread (a + suc n)) && there)
any_of_step here there rest thread a n same e = grind (arith, nat_tests)

list_any-cond : (q : ℕ → Bool) (b : Bool) (x : ℕ) (xs : List ℕ) → list_any q (cond b (x ∷ xs) xs) ≡ cond b (q x || list_any q xs) (list_any q xs)
list_any-cond q true x xs = refl
list_any-cond q false x xs = refl

-- A thread is among the numbers that pass if and only if it is in the range and passes.
pub any_of_range : (p : ℕ → Bool) (thread a n : ℕ) → list_any (λ t. nat_eq t thread) (filter p (range_with_len a n)) ≡ ((nat_le a thread && nat_lt thread (a + n)) && p thread)
any_of_range p thread a zero = grind (arith, nat_tests)
any_of_range p thread a (suc n) =
    list_any-cond (λ t. nat_eq t thread) (p a) a (filter p (range_with_len (a + 1) n))
    ∙ any_of_step (p a) (p thread) (list_any (λ t. nat_eq t thread) (filter p (range_with_len (a + 1) n))) thread a n (λ e. ap p e) (any_of_range p thread (a + 1) n)

-- A thread is among the enabled threads if and only if it is one of all threads and passes.
pub any_enabled : (p : ℕ → Bool) (count thread : ℕ) → list_any (λ t. nat_eq t thread) (enabled_of p count) ≡ (nat_lt thread count && p thread)
any_enabled p count thread = any_of_range p thread 0 count ∙ grind (arith, nat_tests)

pub stays_enabled : (p : ℕ → Bool) (count quantum thread turns : ℕ) → stays quantum thread turns (enabled_of p count) ≡ (nat_lt turns quantum && (nat_lt thread count && p thread))
stays_enabled p count quantum thread turns = ap (λ b. nat_lt turns quantum && b) (any_enabled p count thread)
