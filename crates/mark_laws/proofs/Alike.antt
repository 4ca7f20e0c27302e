-- Traces are alike just if one is the other after some swaps.
use Rattle.std.proofs.Common.{◌≡◌, ◌⊎◌, inl, inr, ℕ, Bool, true, false, cond, List, [], ◌∷◌, ◌++◌, refl, sym, ap, ◌∙◌, subst}
use Rattle.std.specs.List.{filter}
use Rattle.std.proofs.lemmas.Bool.{both_ways, eq-eqb, eqb-true, ne_eqb}
use Rattle.std.proofs.lemmas.List.Elements.{filter-append}
use Rattle.jvms_machine.specs.declared.trace.Item.{Item}
use Rattle.jvms_machine.specs.Events.{thread_of}
use Rattle.velodrome.specs.Transactions.{is_event}
use Rattle.mark_laws.specs.Swaps.{AreAlike, AreSwaps, MaySwap, Same, Swap, is_of}
use Rattle.mark_laws.proofs.Swapped.{backwards, keeps_first, one_after_another, one_swap}

-- ---- Swapped traces are alike

-- A test that at most one of two items passes sees no swap of them.
filter_swap : (p : Item → Bool) (before after : List Item) (a b : Item) → (p a ≡ false) ⊎ (p b ≡ false) → filter p (before ++ a ∷ b ∷ after) ≡ filter p (before ++ b ∷ a ∷ after)
filter_swap p [] after a b one = of (p a) (p b) one
  where
    of : (x y : Bool) → (x ≡ false) ⊎ (y ≡ false) → cond x (a ∷ cond y (b ∷ filter p after) (filter p after)) (cond y (b ∷ filter p after) (filter p after)) ≡ cond y (b ∷ cond x (a ∷ filter p after) (filter p after)) (cond x (a ∷ filter p after) (filter p after))
    of false y one = refl
    of true false one = refl
    of true true (inl fails) = absurd (both_ways true fails refl)
    of true true (inr fails) = absurd (both_ways true fails refl)
filter_swap p (i ∷ before) after a b one = ap (λ rest. cond (p i) (i ∷ rest) rest) (filter_swap p before after a b one)

not_both : (a b : Item) (t : ℕ) → (thread_of a ≡ thread_of b → ⊥) → (e : Bool) → is_of t a ≡ e → (is_of t a ≡ false) ⊎ (is_of t b ≡ false)
not_both a b t differ false fails = inl fails
not_both a b t differ true passes = inr (ne_eqb (thread_of b) t (λ is. differ (eqb-true (thread_of a) t passes ∙ sym is)))

pub swaps_are_alike : (items others : List Item) → AreSwaps items others → AreAlike items others
swaps_are_alike items others (Same same) = record { events = refl; threads = λ t. refl }
swaps_are_alike items others (Swap before after a b others' may rest) =
    let then = swaps_are_alike (before ++ b ∷ a ∷ after) others rest in
    record {
      events = filter_swap is_event before after a b may.1 ∙ then.events;
      threads = λ t. filter_swap (is_of t) before after a b (not_both a b t may.0 (is_of t a) refl) ∙ then.threads t;
    }

-- ---- Alike traces are swapped

abbrev IsFull : List Item → Type 0
IsFull [] = ⊥
IsFull (x ∷ xs) = Unit {0}

not_nil : (x : Item) (xs : List Item) → (x ∷ xs) ≡ [] → ⊥
not_nil x xs is = subst IsFull is tt

abbrev head_or : Item → List Item → Item
head_or d [] = d
head_or d (x ∷ xs) = x

abbrev rest_of : List Item → List Item
rest_of [] = []
rest_of (x ∷ xs) = xs

same_first : (x y : Item) (xs ys : List Item) → (x ∷ xs) ≡ (y ∷ ys) → x ≡ y
same_first x y xs ys is = ap (head_or x) is

same_rest : (x y : Item) (xs ys : List Item) → (x ∷ xs) ≡ (y ∷ ys) → xs ≡ ys
same_rest x y xs ys is = ap rest_of is

-- A list at the first item that passes a test.
record Cut (p : Item → Bool) (a : Item) (rest others : List Item) : Type 0 where
  before : List Item
  after : List Item
  parts : others ≡ before ++ a ∷ after
  none : filter p before ≡ []
  then : filter p after ≡ rest

cut : (p : Item → Bool) (a : Item) (rest others : List Item) → filter p others ≡ a ∷ rest → Cut p a rest others
cut p a rest [] is = absurd (not_nil a rest (sym is))
cut p a rest (i ∷ others) is = of (λ later. cut p a rest others later) (p i) refl is
  where
    of : (filter p others ≡ a ∷ rest → Cut p a rest others) → (e : Bool) → p i ≡ e → cond e (i ∷ filter p others) (filter p others) ≡ a ∷ rest → Cut p a rest (i ∷ others)
    of more true passes is = record { before = []; after = others; parts = ap (λ x. x ∷ others) (same_first i a (filter p others) rest is); none = refl; then = same_rest i a (filter p others) rest is }
    of more false fails is =
        let c = more is in
        record { before = i ∷ c.before; after = c.after; parts = ap (λ xs. i ∷ xs) c.parts; none = ap (λ b. cond b (i ∷ filter p c.before) (filter p c.before)) fails ∙ c.none; then = c.then }

-- None of the items passes the test, if none passes from the first on.
first_fails : (p : Item → Bool) (i : Item) (items : List Item) → filter p (i ∷ items) ≡ [] → (p i ≡ false) × (filter p items ≡ [])
first_fails p i items none = of (p i) refl none
  where
    of : (e : Bool) → p i ≡ e → cond e (i ∷ filter p items) (filter p items) ≡ [] → (p i ≡ false) × (filter p items ≡ [])
    of true passes is = absurd (not_nil i (filter p items) is)
    of false fails is = (fails, is)

-- The item may be moved before these.
abbrev MayPass : Item → List Item → Type 0
MayPass a [] = Unit {0}
MayPass a (b ∷ before) = MaySwap b a × MayPass a before

differs : (a b : Item) → is_of (thread_of a) b ≡ false → thread_of b ≡ thread_of a → ⊥
differs a b fails same = both_ways (is_of (thread_of a) b) fails (eq-eqb (thread_of b) (thread_of a) same)

may_pass_all : (a : Item) (before : List Item) → filter (is_of (thread_of a)) before ≡ [] → (is_event a ≡ false) ⊎ (filter is_event before ≡ []) → MayPass a before
may_pass_all a [] none one = tt
may_pass_all a (b ∷ before) none (inl mark) =
    let f = first_fails (is_of (thread_of a)) b before none in
    ((differs a b f.0, inr mark), may_pass_all a before f.1 (inl mark))
may_pass_all a (b ∷ before) none (inr marks) =
    let f = first_fails (is_of (thread_of a)) b before none in
    let m = first_fails is_event b before marks in
    ((differs a b f.0, inl m.0), may_pass_all a before f.1 (inr m.1))

moved_first : (a : Item) (before after : List Item) → MayPass a before → AreSwaps (a ∷ before ++ after) (before ++ a ∷ after)
moved_first a [] after may = Same (a ∷ after)
moved_first a (b ∷ before) after may =
    one_after_another (a ∷ b ∷ before ++ after) (b ∷ a ∷ before ++ after) (b ∷ before ++ a ∷ after)
    (backwards (b ∷ a ∷ before ++ after) (a ∷ b ∷ before ++ after) (one_swap [] (before ++ after) b a may.0))
    (keeps_first b (a ∷ before ++ after) (before ++ a ∷ after) (moved_first a before after may.1))

-- An item that stands first in one list and later in the other is dropped from both.
dropped : (p : Item → Bool) (a : Item) (items before after : List Item) → filter p (a ∷ items) ≡ filter p (before ++ a ∷ after) → (p a ≡ true → filter p before ≡ []) → filter p items ≡ filter p (before ++ after)
dropped p a items before after same none = of (p a) refl (same ∙ filter-append p before (a ∷ after)) none ∙ sym (filter-append p before after)
  where
    of : (e : Bool) → p a ≡ e → cond e (a ∷ filter p items) (filter p items) ≡ filter p before ++ cond e (a ∷ filter p after) (filter p after) → (e ≡ true → filter p before ≡ []) → filter p items ≡ filter p before ++ filter p after
    of true passes is none = same_rest a a (filter p items) (filter p after) (is ∙ ap (λ xs. xs ++ a ∷ filter p after) (none refl)) ∙ ap (λ xs. xs ++ filter p after) (sym (none refl))
    of false fails is none = is

-- The first event isn't before the first item of its thread.
no_event_before : (a : Item) (items before after : List Item) → filter (is_of (thread_of a)) before ≡ [] → (a ∷ items) ≡ filter is_event before ++ after → filter is_event before ≡ []
no_event_before a items [] after none is = refl
no_event_before a items (b ∷ before) after none is =
    of (λ same. no_event_before a items before after (first_fails (is_of (thread_of a)) b before none).1 same) (is_event b) refl is
  where
    of : ((a ∷ items) ≡ filter is_event before ++ after → filter is_event before ≡ []) → (e : Bool) → is_event b ≡ e → (a ∷ items) ≡ cond e (b ∷ filter is_event before) (filter is_event before) ++ after → filter is_event (b ∷ before) ≡ []
    of more true event is = absurd (differs a b (first_fails (is_of (thread_of a)) b before none).0 (ap thread_of (sym (same_first a b items (filter is_event before ++ after) is))))
    of more false mark is = ap (λ e. cond e (b ∷ filter is_event before) (filter is_event before)) mark ∙ more is

first_of_thread : (a : Item) (items : List Item) → filter (is_of (thread_of a)) (a ∷ items) ≡ a ∷ filter (is_of (thread_of a)) items
first_of_thread a items = ap (λ e. cond e (a ∷ filter (is_of (thread_of a)) items) (filter (is_of (thread_of a)) items)) (eq-eqb (thread_of a) (thread_of a) refl)

nothing_alike : (others : List Item) → AreAlike [] others → [] ≡ others
nothing_alike [] alike = refl
nothing_alike (i ∷ others) alike = absurd (not_nil i (filter (is_of (thread_of i)) others) (sym (alike.threads (thread_of i) ∙ first_of_thread i others)))

module _ (a : Item) (items before after : List Item) (alike : AreAlike (a ∷ items) (before ++ a ∷ after)) (none : filter (is_of (thread_of a)) before ≡ []) where
  no_event : is_event a ≡ true → filter is_event before ≡ []
  no_event event =
      no_event_before a (filter is_event items) before (filter is_event (a ∷ after)) none
      (sym (ap (λ e. cond e (a ∷ filter is_event items) (filter is_event items)) event) ∙ (alike.events ∙ filter-append is_event before (a ∷ after)))

  rest_alike : AreAlike items (before ++ after)
  rest_alike =
      record {
        events = dropped is_event a items before after alike.events no_event;
        threads = λ u. dropped (is_of u) a items before after (alike.threads u) (λ passes. subst (λ t. filter (is_of t) before ≡ []) (eqb-true (thread_of a) u passes) none);
      }

  passes_all : (e : Bool) → is_event a ≡ e → MayPass a before
  passes_all true event = may_pass_all a before none (inr (no_event event))
  passes_all false mark = may_pass_all a before none (inl mark)

pub alike_are_swaps : (items others : List Item) → AreAlike items others → AreSwaps items others
alike_are_swaps [] others alike = subst (AreSwaps []) (nothing_alike others alike) (Same [])
alike_are_swaps (a ∷ items) others alike =
    let t = thread_of a in
    let c = cut (is_of t) a (filter (is_of t) items) others (sym (alike.threads t) ∙ first_of_thread a items) in
    let now = subst (AreAlike (a ∷ items)) c.parts alike in
    subst (AreSwaps (a ∷ items)) (sym c.parts)
    (one_after_another (a ∷ items) (a ∷ c.before ++ c.after) (c.before ++ a ∷ c.after)
    (keeps_first a items (c.before ++ c.after) (alike_are_swaps items (c.before ++ c.after) (rest_alike a items c.before c.after now c.none)))
    (moved_first a c.before c.after (passes_all a items c.before c.after now c.none (is_event a) refl)))
