-- The turn of the thread that a chooser predicts.
use Rattle.std.proofs.Common.{◌≡◌, ℕ, Bool, true, false, List, length, Option, Some, ap, subst, sym, ◌∙◌}
use Rattle.jvms_machine.specs.declared.machine.Outcome.{Outcome}
use Rattle.jvms_machine.specs.declared.trace.Item.{Item}
use Rattle.jvms_machine.specs.Status.{is_enabled}
use Rattle.jvms_machine.proofs.UnmadeTurns.{unmade_turn_keeps}
use Rattle.trace.specs.Recording.{with_items}
use Rattle.trace.proofs.Recorded.{recorded_none}
use Rattle.machine.specs.Machine.{Machine, transition_of, with_state}
use Rattle.schedule.specs.Choosers.{Chooser, with_choices, may_be_enabled, IsNextBeside}
use Rattle.schedule.specs.Enabled.{is_enabled_in}
use Rattle.runs.specs.Choices.{IsTurnOf, choice_of, chooser_after}
use Rattle.runs.specs.Kept.{AreIdle}
use Rattle.runs.proofs.KeptThreads.{enabled_apart}

-- A turn of a thread that isn't enabled changes nothing.
pub unmade : (m after : Machine) (t : ℕ) (o : Outcome) (items more : Option (List Item))
    → o ≡ (transition_of m t).outcome → is_enabled o ≡ false → after ≡ with_state m (transition_of m t).state → more ≡ with_items items (transition_of m t).items
    → (after ≡ m) × (more ≡ items)
unmade m after t o items more outcome disabled state items_are =
    let kept = unmade_turn_keeps m.program m.limits m.start m.state t (sym (ap is_enabled outcome) ∙ disabled) in
    (state ∙ ap (with_state m) kept.0, items_are ∙ ap (λ l. with_items items l) kept.1 ∙ recorded_none items)

-- A thread that is predicted beside idle threads is the next choice if it is enabled, and counting it gives the chooser
-- after that choice.
pub chosen_beside : (m : Machine) (chooser : Chooser) (are_idle idle : List Bool) (t : ℕ) (o : Outcome)
    → AreIdle m are_idle → idle ≡ are_idle → IsNextBeside idle t (length m.state.threads) chooser → o ≡ (transition_of m t).outcome → is_enabled o ≡ true
    → (choice_of chooser m ≡ Some t) × (with_choices 1 t chooser ≡ chooser_after chooser m)
unfolding IsNextBeside with_choices
chosen_beside m chooser are_idle idle t o are same next_is outcome enabled =
    let is = next_is (is_enabled_in m) (λ u on. subst (λ (l : List Bool). may_be_enabled l u ≡ true) (sym same) (enabled_apart m are_idle u are on)) (sym (ap is_enabled outcome) ∙ enabled) in
    (ap (λ n. n.0) is, sym (ap (λ n. n.1) is))

-- ---- A turn after predictions that weren't enabled

-- The turn that was taken after nothing had changed is the first.
pub taken_later : {m m1 after : Machine} {chooser chooser1 later : Chooser} {items items1 more : Option (List Item)} {taken : ℕ × Outcome}
    → m1 ≡ m → chooser1 ≡ chooser → items1 ≡ items → IsTurnOf m1 chooser1 items1 taken after later more → IsTurnOf m chooser items taken after later more
taken_later {m} {m1} {after} {chooser} {chooser1} {later} {items} {items1} {more} {taken} same_m same_chooser same_items turn =
    subst (λ (x : Machine). IsTurnOf x chooser items taken after later more) same_m
    (subst (λ (x : Chooser). IsTurnOf m1 x items taken after later more) same_chooser
    (subst (λ (x : Option (List Item)). IsTurnOf m1 chooser1 x taken after later more) same_items turn))
