-- Consecutive turns of one thread.
use Rattle.std.proofs.Common.{◌≡◌, ℕ, zero, suc, ◌+◌, ◌-◌, ◌<◌, ◌≤◌, ◌≢◌, List, [], ◌∷◌, ◌++◌, length, replicate, refl, ap, sym, ◌∙◌, subst, arith, Option, Some}
use Rattle.std.proofs.lemmas.List.{append-nil, append_assoc, replicate-append-replicate}
use Rattle.jvms_machine.specs.declared.machine.Outcome.{Outcome}
use Rattle.jvms_machine.specs.declared.machine.Outcome.TheVariants as outcome
use Rattle.jvms_machine.specs.declared.trace.Item.{Item}
use Rattle.jvms_machine.specs.Status.{is_enabled}
use Rattle.trace.specs.Recording.{with_items}
use Rattle.machine.specs.Machine.{Machine, transition_of}
use Rattle.machine.specs.Runs.{RanAmong, AreRunTurns}
use Rattle.schedule.specs.Choosers.{Chooser, with_choice, with_choices, enabled_of, next, IsNextFor}
use Rattle.schedule.specs.Enabled.{is_enabled_in, enabled_threads}
use Rattle.runs.specs.Choices.{after_turn, AreConsecutiveTurns}
use Rattle.runs.proofs.ChosenTurns.{AreTaken, taken_more}

-- Before the first turn, nothing has changed.
pub none_on : (m : Machine) (chooser : Chooser) (items : Option (List Item)) (thread : ℕ) → AreConsecutiveTurns m chooser items thread 0 m chooser items
unfolding AreRunTurns IsNextFor with_choices
none_on m chooser items thread = record { ran = (refl, refl); chosen = tt; counted = refl }

-- A thread that is next for a number of turns is next for any smaller number.
next_fewer : (fewer times thread threads : ℕ) (chooser : Chooser) → fewer ≤ times → IsNextFor times thread threads chooser → IsNextFor fewer thread threads chooser
unfolding IsNextFor
next_fewer zero times thread threads chooser few is = tt
next_fewer (suc fewer) zero thread threads chooser few is = let never : ⊥ = omega arith in absurd never
next_fewer (suc fewer) (suc times) thread threads chooser few is =
    (is.0, next_fewer fewer times thread threads (with_choice thread chooser) (omega arith) is.1)

-- Turns of a thread that ran are the chooser's, if the thread is next for at least as many.
pub fewer_on : (m after : Machine) (chooser later : Chooser) (items more : Option (List Item)) (thread times turns : ℕ) → AreRunTurns times thread (length m.state.threads) m items after more → times ≤ turns
    → IsNextFor turns thread (length m.state.threads) chooser → later ≡ with_choices times thread chooser → AreConsecutiveTurns m chooser items thread times after later more
fewer_on m after chooser later items more thread times turns ran few next_is counted_is =
    record { ran = ran; chosen = next_fewer times turns thread (length m.state.threads) chooser few next_is; counted = counted_is }

on_taken : (n threads : ℕ) (before : Machine) (first : Chooser) (most : ℕ) (items_before : Option (List Item)) (made : ℕ) (choices : List ℕ) (outcomes : List Outcome) (m : Machine) (chooser : Chooser) (items : Option (List Item))
    (t : ℕ) (after : Machine) (later : Chooser) (more : Option (List Item))
    → AreTaken before first most items_before made choices outcomes m chooser items → made + n ≤ most
    → AreRunTurns n t threads m items after more → IsNextFor n t threads chooser → later ≡ with_choices n t chooser
    → AreTaken before first most items_before (made + n) (choices ++ replicate n t) (outcomes ++ replicate n outcome.Ran) after later more
unfolding AreRunTurns IsNextFor with_choices
on_taken zero threads before first most items_before made choices outcomes m chooser items t after later more taken fits ran next_is later_is =
    let as_many : made + 0 ≡ made = omega arith in
    subst (λ l. AreTaken before first most items_before (made + 0) l (outcomes ++ []) after later more) (sym (append-nil choices))
    (subst (λ l. AreTaken before first most items_before (made + 0) choices l after later more) (sym (append-nil outcomes))
    (rw (as_many, ran.0, ran.1, later_is) taken))
on_taken (suc n) threads before first most items_before made choices outcomes m chooser items t after later more taken fits ran next_is later_is =
    let among : RanAmong threads m t = ran.0 in
    let chosen : next chooser (enabled_threads m) ≡ (Some t, with_choice t chooser) =
    subst (λ k. next chooser (enabled_of (is_enabled_in m) k) ≡ (Some t, with_choice t chooser)) (sym among.1) (next_is.0 (is_enabled_in m) (ap is_enabled among.0)) in
    let one = taken_more before first most items_before made choices outcomes m chooser items t outcome.Ran (after_turn m t) (with_choice t chooser) (with_items items (transition_of m t).items)
    taken (omega arith) (ap (λ c. c.0) chosen) (sym (ap (λ c. c.1) chosen)) (sym among.0) refl refl in
    let rest = on_taken n threads before first most items_before (made + 1) (choices ++ t ∷ []) (outcomes ++ outcome.Ran ∷ []) (after_turn m t) (with_choice t chooser) (with_items items (transition_of m t).items) t after later more
    one (omega arith) ran.1 next_is.1 later_is in
    let as_many : made + 1 + n ≡ made + suc n = omega arith in
    subst (λ l. AreTaken before first most items_before (made + suc n) l (outcomes ++ replicate (suc n) outcome.Ran) after later more) (append_assoc choices (t ∷ []) (replicate n t))
    (subst (λ l. AreTaken before first most items_before (made + suc n) ((choices ++ t ∷ []) ++ replicate n t) l after later more) (append_assoc outcomes (outcome.Ran ∷ []) (replicate n outcome.Ran))
    (subst (λ k. AreTaken before first most items_before k ((choices ++ t ∷ []) ++ replicate n t) ((outcomes ++ outcome.Ran ∷ []) ++ replicate n outcome.Ran) after later more) as_many rest))

-- Consecutive turns of a thread follow the turns that were taken.
pub taken_on : (before : Machine) (first : Chooser) (most : ℕ) (items_before : Option (List Item)) (made : ℕ) (choices : List ℕ) (outcomes : List Outcome) (m : Machine) (chooser : Chooser) (items : Option (List Item))
    (t n : ℕ) (after : Machine) (later : Chooser) (more_items : Option (List Item))
    → AreTaken before first most items_before made choices outcomes m chooser items → n ≤ most - made → AreConsecutiveTurns m chooser items t n after later more_items
    → AreTaken before first most items_before (made + n) (choices ++ replicate n t) (outcomes ++ replicate n outcome.Ran) after later more_items
taken_on before first most items_before made choices outcomes m chooser items t n after later more_items taken fits on =
    let within = taken.within in
    on_taken n (length m.state.threads) before first most items_before made choices outcomes m chooser items t after later more_items taken (omega arith) on.ran on.chosen on.counted

-- Consecutive turns of a thread follow the turns that were taken, with choices and outcomes appended.
pub noted_on : (before : Machine) (first : Chooser) (most : ℕ) (items_before : Option (List Item)) (made : ℕ) (choices more : List ℕ) (outcomes more_outcomes : List Outcome) (m : Machine) (chooser : Chooser) (items : Option (List Item))
    (t n : ℕ) (after : Machine) (later : Chooser) (more_items : Option (List Item))
    → AreTaken before first most items_before made choices outcomes m chooser items → n ≤ most - made → AreConsecutiveTurns m chooser items t n after later more_items
    → more ≡ choices ++ replicate n t → more_outcomes ≡ outcomes ++ replicate n outcome.Ran
    → AreTaken before first most items_before (made + n) more more_outcomes after later more_items
noted_on before first most items_before made choices more outcomes more_outcomes m chooser items t n after later more_items taken fits on choices_are outcomes_are =
    rw (choices_are, outcomes_are) (taken_on before first most items_before made choices outcomes m chooser items t n after later more_items taken fits on)

-- Appending an element to a repetition of it makes the repetition longer by one.
pub one_more : {A : Type 0} (n : ℕ) (x : A) (xs : List A) → (xs ++ replicate n x) ++ x ∷ [] ≡ xs ++ replicate (n + 1) x
one_more n x xs = append_assoc xs (replicate n x) (x ∷ []) ∙ ap (λ l. xs ++ l) (replicate-append-replicate n 1 x)

-- If the limit isn't reached, fewer turns were taken.
pub fewer : (made times most : ℕ) → made < most → times ≤ most - made → made + times ≢ most → made + times < most
fewer made times most left few not_all = omega (arith, left, few, not_all)

-- If as many turns were taken as the limit, it is reached.
pub as_many : (made most : ℕ) → made ≡ most → most ≤ made
as_many made most all = omega (arith, all)
