-- Turns by a chooser, which are only counted.
use Rattle.std.proofs.Common.{◌≡◌, ℕ, ◌+◌, ◌-◌, ◌<◌, ◌≤◌, List, [], ◌∷◌, ◌++◌, length, replicate, Option, None, refl, ap, ◌∙◌, arith}
use Rattle.std.proofs.lemmas.List.{length-append, length-replicate}
use Rattle.jvms_machine.specs.declared.machine.Outcome.{Outcome}
use Rattle.jvms_machine.specs.declared.machine.Outcome.TheVariants as outcome
use Rattle.jvms_machine.specs.declared.trace.Item.{Item}
use Rattle.trace.specs.Recording.{with_items}
use Rattle.machine.specs.Machine.{Machine, with_state}
use Rattle.machine.specs.Runs.{run_of}
use Rattle.schedule.specs.Choosers.{Chooser}
use Rattle.runs.specs.Choices.{choice_of, chooser_after, choices_from, chooser_after_choices, AreConsecutiveTurns, BrokeOff, IsTurnOf, MayHaveGiven}
use Rattle.runs.proofs.ChosenTurns.{AreTaken, all_given, all_made, behind_all_given, behind_all_made, broken_here, taken_next, taken_none}
use Rattle.runs.proofs.TurnsOn.{taken_on}

-- Turns were taken by the first choices of a chooser, and only their number is kept.
pub record AreCounted (before : Machine) (first : Chooser) (most : ℕ) (items_before : Option (List Item)) (made : ℕ) (m : Machine) (chooser : Chooser) (items : Option (List Item)) : Type 0 where
  pub choices : List ℕ
  pub outcomes : List Outcome
  pub taken : AreTaken before first most items_before made choices outcomes m chooser items
  pub many : made ≡ length choices

-- No turn is taken yet.
pub counted_none : (m : Machine) (chooser : Chooser) (most : ℕ) (items : Option (List Item)) → AreCounted m chooser most items 0 m chooser items
counted_none m chooser most items =
    record { choices = []; outcomes = []; taken = taken_none m chooser most items [] [] refl refl; many = refl }

-- Consecutive turns of one thread are taken.
pub counted_on : (before : Machine) (first : Chooser) (most : ℕ) (items_before : Option (List Item)) (made : ℕ) (m : Machine) (chooser : Chooser) (items : Option (List Item))
    (t n : ℕ) (after : Machine) (later : Chooser) (more : Option (List Item))
    → AreCounted before first most items_before made m chooser items → n ≤ most - made → AreConsecutiveTurns m chooser items t n after later more
    → AreCounted before first most items_before (made + n) after later more
counted_on before first most items_before made m chooser items t n after later more are fits on =
    let many = are.many in
    let sum = length-append are.choices (replicate n t) in
    let times = length-replicate n t in
    record {
      choices = are.choices ++ replicate n t;
      outcomes = are.outcomes ++ replicate n outcome.Ran;
      taken = taken_on before first most items_before made are.choices are.outcomes m chooser items t n after later more are.taken fits on;
      many = omega arith;
    }

-- One more turn is taken.
pub counted_next : (before : Machine) (first : Chooser) (most : ℕ) (items_before : Option (List Item)) (made : ℕ) (m : Machine) (chooser : Chooser) (items : Option (List Item))
    (taken : ℕ × Outcome) (after : Machine) (later : Chooser) (more : Option (List Item))
    → AreCounted before first most items_before made m chooser items → made < most → IsTurnOf m chooser items taken after later more
    → AreCounted before first most items_before (made + 1) after later more
counted_next before first most items_before made m chooser items taken after later more are below is =
    let many = are.many in
    let sum = length-append are.choices (taken.0 ∷ []) in
    record {
      choices = are.choices ++ taken.0 ∷ [];
      outcomes = are.outcomes ++ taken.1 ∷ [];
      taken = taken_next before first most items_before made are.choices are.outcomes m chooser items taken after later more are.taken below is;
      many = omega arith;
    }

-- A run that breaks off here has taken the turns of some first choices.
pub counted_broken : (before : Machine) (first : Chooser) (most : ℕ) (items_before : Option (List Item)) (made : ℕ) (m : Machine) (chooser later : Chooser) (items : Option (List Item))
    → AreCounted before first most items_before made m chooser items → MayHaveGiven chooser m later → BrokeOff before first most m later items_before items
counted_broken before first most items_before made m chooser later items are gave =
    broken_here before first most items_before made are.choices are.outcomes m chooser later items are.taken gave

-- The number, the machine and the items are those of all turns that a chooser gives, up to the limit.
pub record AllCounted (before : Machine) (first : Chooser) (most : ℕ) (items_before : Option (List Item)) (made : ℕ) (m : Machine) (items : Option (List Item)) : Type 0 where
  pub many : made ≡ length (choices_from most first before)
  pub state : m ≡ with_state before (run_of before (choices_from most first before)).state
  pub kept : items ≡ with_items items_before (run_of before (choices_from most first before)).items

all_counted : (before : Machine) (first : Chooser) (most : ℕ) (items_before : Option (List Item)) (made : ℕ) (m : Machine) (chooser : Chooser) (items : Option (List Item))
    → (are : AreCounted before first most items_before made m chooser items) → are.choices ≡ choices_from most first before → AllCounted before first most items_before made m items
all_counted before first most items_before made m chooser items are all =
    record {
      many = are.many ∙ ap length all;
      state = are.taken.ran.1 ∙ ap (λ l. with_state before (run_of before l).state) all;
      kept = are.taken.ran.2 ∙ ap (λ l. with_items items_before (run_of before l).items) all;
    }

-- If the chooser gives none, these are all the turns.
pub counted_all_given : (before : Machine) (first : Chooser) (most : ℕ) (items_before : Option (List Item)) (made : ℕ) (m : Machine) (chooser : Chooser) (items : Option (List Item))
    → AreCounted before first most items_before made m chooser items → choice_of chooser m ≡ None → AllCounted before first most items_before made m items
counted_all_given before first most items_before made m chooser items are none =
    all_counted before first most items_before made m chooser items are
    (all_given before first most items_before made are.choices are.outcomes m chooser items are.taken none)

-- If the limit is reached, these are all the turns.
pub counted_all_made : (before : Machine) (first : Chooser) (most : ℕ) (items_before : Option (List Item)) (made : ℕ) (m : Machine) (chooser : Chooser) (items : Option (List Item))
    → AreCounted before first most items_before made m chooser items → most ≤ made → AllCounted before first most items_before made m items
counted_all_made before first most items_before made m chooser items are reached =
    all_counted before first most items_before made m chooser items are
    (all_made before first most items_before made are.choices are.outcomes m chooser items are.taken reached)

-- If the chooser gives none, what is left of it is the chooser after all the choices.
pub chooser_all_given : (before : Machine) (first : Chooser) (most : ℕ) (items_before : Option (List Item)) (made : ℕ) (m : Machine) (chooser later : Chooser) (items : Option (List Item))
    → AreCounted before first most items_before made m chooser items → made < most → choice_of chooser m ≡ None → later ≡ chooser_after chooser m → later ≡ chooser_after_choices most first before
chooser_all_given before first most items_before made m chooser later items are below none later_is =
    behind_all_given before first most items_before made are.choices are.outcomes m chooser later items are.taken below none later_is

-- If the limit is reached, this is the chooser after all the choices.
pub chooser_all_made : (before : Machine) (first : Chooser) (most : ℕ) (items_before : Option (List Item)) (made : ℕ) (m : Machine) (chooser : Chooser) (items : Option (List Item))
    → AreCounted before first most items_before made m chooser items → most ≤ made → chooser ≡ chooser_after_choices most first before
chooser_all_made before first most items_before made m chooser items are reached =
    behind_all_made before first most items_before made are.choices are.outcomes m chooser items are.taken reached
