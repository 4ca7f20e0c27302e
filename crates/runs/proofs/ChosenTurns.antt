-- Consecutive turns by a chooser.
use Rattle.std.proofs.Common.{◌≡◌, ℕ, zero, suc, ◌+◌, ◌-◌, ◌<◌, ◌≤◌, ◌⊎◌, inl, inr, List, [], ◌∷◌, ◌++◌, length, refl, ap, sym, ◌∙◌, arith, Option, Some, None}
use Rattle.std.proofs.lemmas.List.{append-nil, append_assoc}
use Rattle.jvms_machine.specs.declared.machine.Outcome.{Outcome}
use Rattle.jvms_machine.specs.declared.trace.Item.{Item}
use Rattle.trace.specs.Recording.{with_items}
use Rattle.machine.specs.Machine.{Machine, transition_of, with_state}
use Rattle.machine.specs.Runs.{run_of, IsRun}
use Rattle.machine.proofs.RunLaws.{run_none, run_more}
use Rattle.schedule.specs.Choosers.{Chooser}
use Rattle.runs.specs.Choices.{after_turn, choice_of, chooser_after, choices_from, chooser_after_choices, first_then, left_or, BrokeOff, IsTurnOf, MayHaveGiven}

-- Turns were taken by the first choices of a chooser, and led to this machine and these items. What is left of the
-- chooser gives the other choices.
pub record AreTaken (before : Machine) (first : Chooser) (most : ℕ) (items_before : Option (List Item)) (made : ℕ) (choices : List ℕ) (outcomes : List Outcome) (m : Machine) (chooser : Chooser) (items : Option (List Item)) : Type 0 where
  pub within : made ≤ most
  pub left : (n : ℕ) → choices ++ choices_from n chooser m ≡ choices_from (made + n) first before
  pub left_behind : (n : ℕ) → chooser_after_choices n chooser m ≡ chooser_after_choices (made + n) first before
  pub ran : IsRun before choices outcomes m items_before items

pub one_left : (n : ℕ) (chooser : Chooser) (m : Machine) (t : ℕ) → choice_of chooser m ≡ Some t → choices_from (suc n) chooser m ≡ t ∷ choices_from n (chooser_after chooser m) (after_turn m t)
unfolding choices_from
one_left n chooser m t is = rw is refl

pub none_left : (n : ℕ) (chooser : Chooser) (m : Machine) → choice_of chooser m ≡ None → choices_from n chooser m ≡ []
unfolding choices_from
none_left zero chooser m is = refl
none_left (suc n) chooser m is = rw is refl

pub one_behind : (n : ℕ) (chooser : Chooser) (m : Machine) (t : ℕ) → choice_of chooser m ≡ Some t → chooser_after_choices (suc n) chooser m ≡ chooser_after_choices n (chooser_after chooser m) (after_turn m t)
unfolding chooser_after_choices
one_behind n chooser m t is = rw is refl

pub none_behind : (n : ℕ) (chooser : Chooser) (m : Machine) → choice_of chooser m ≡ None → chooser_after_choices (suc n) chooser m ≡ chooser_after chooser m
unfolding chooser_after_choices
none_behind n chooser m is = rw is refl

pub nothing_behind : (chooser : Chooser) (m : Machine) → chooser_after_choices 0 chooser m ≡ chooser
unfolding chooser_after_choices
nothing_behind chooser m = refl

left_or_behind : (t : Option ℕ) (left : Chooser) → left_or t left (λ _. left) ≡ left
left_or_behind None left = refl
left_or_behind (Some t) left = refl

-- The chooser after at most one choice.
once_behind : (chooser : Chooser) (m : Machine) → chooser_after_choices 1 chooser m ≡ chooser_after chooser m
unfolding chooser_after_choices
once_behind chooser m = left_or_behind (choice_of chooser m) (chooser_after chooser m)

one_more_made : (made : ℕ) → made + 1 ≡ suc made
one_more_made made = omega arith

pub nothing_left : (chooser : Chooser) (m : Machine) → choices_from 0 chooser m ≡ []
unfolding choices_from
nothing_left chooser m = refl

none_before : (n : ℕ) → n ≡ 0 + n
none_before n = omega arith

-- No turn is taken yet.
pub taken_none : (m : Machine) (chooser : Chooser) (most : ℕ) (items : Option (List Item)) (choices : List ℕ) (outcomes : List Outcome) → choices ≡ [] → outcomes ≡ [] → AreTaken m chooser most items 0 choices outcomes m chooser items
taken_none m chooser most items choices outcomes no_choice no_outcome =
    rw (no_choice, no_outcome) record {
      within = omega arith;
      left = λ n. ap (λ k. choices_from k chooser m) (none_before n);
      left_behind = λ n. ap (λ k. chooser_after_choices k chooser m) (none_before n);
      ran = run_none m items;
    }

-- One fewer turn is left after a turn.
one_later : (made n : ℕ) → made + suc n ≡ made + 1 + n
one_later made n = omega arith

-- The turns that were taken and those that are left are as many as the limit.
up_to : (made most : ℕ) → made ≤ most → made + (most - made) ≡ most
up_to made most within = omega (arith, within)

one_more_up_to : (made most : ℕ) → made < most → made + suc (most - (made + 1)) ≡ most
one_more_up_to made most below = omega (arith, below)

none_more : (made : ℕ) → made + 0 ≡ made
none_more made = omega arith

none_up_to : (made most : ℕ) → made ≤ most → most ≤ made → made + 0 ≡ most
none_up_to made most within reached = omega (arith, within, reached)

-- One more turn is taken.
pub taken_more : (before : Machine) (first : Chooser) (most : ℕ) (items_before : Option (List Item)) (made : ℕ) (choices : List ℕ) (outcomes : List Outcome) (m : Machine) (chooser : Chooser) (items : Option (List Item))
    (t : ℕ) (o : Outcome) (after : Machine) (later : Chooser) (items_after : Option (List Item))
    → AreTaken before first most items_before made choices outcomes m chooser items → made < most
    → choice_of chooser m ≡ Some t → later ≡ chooser_after chooser m
    → o ≡ (transition_of m t).outcome → after ≡ with_state m (transition_of m t).state → items_after ≡ with_items items (transition_of m t).items
    → AreTaken before first most items_before (made + 1) (choices ++ t ∷ []) (outcomes ++ o ∷ []) after later items_after
taken_more before first most items_before made choices outcomes m chooser items t o after later items_after taken below chosen later_is outcome state items_are =
    record {
      within = omega arith;
      left = λ n.
          append_assoc choices (t ∷ []) (choices_from n later after)
          ∙ ap (λ c. choices ++ t ∷ choices_from n c after) later_is
          ∙ ap (λ x. choices ++ t ∷ choices_from n (chooser_after chooser m) x) state
          ∙ ap (λ l. choices ++ l) (sym (one_left n chooser m t chosen))
          ∙ taken.left (suc n)
          ∙ ap (λ k. choices_from k first before) (one_later made n);
      left_behind = λ n.
          ap (λ c. chooser_after_choices n c after) later_is
          ∙ ap (λ x. chooser_after_choices n (chooser_after chooser m) x) state
          ∙ sym (one_behind n chooser m t chosen)
          ∙ taken.left_behind (suc n)
          ∙ ap (λ k. chooser_after_choices k first before) (one_later made n);
      ran = run_more before m after choices outcomes items_before items items_after t o taken.ran outcome state items_are;
    }

-- One more turn is taken, that of the chooser's next choice.
pub taken_next : (before : Machine) (first : Chooser) (most : ℕ) (items_before : Option (List Item)) (made : ℕ) (choices : List ℕ) (outcomes : List Outcome) (m : Machine) (chooser : Chooser) (items : Option (List Item))
    (taken : ℕ × Outcome) (after : Machine) (later : Chooser) (more : Option (List Item))
    → AreTaken before first most items_before made choices outcomes m chooser items → made < most → IsTurnOf m chooser items taken after later more
    → AreTaken before first most items_before (made + 1) (choices ++ taken.0 ∷ []) (outcomes ++ taken.1 ∷ []) after later more
taken_next before first most items_before made choices outcomes m chooser items taken after later more are below is =
    taken_more before first most items_before made choices outcomes m chooser items taken.0 taken.1 after later more are below is.0 is.3 is.1 is.2 is.4

-- What a chooser left or gave is what is left of the first chooser after as many choices as were taken, or after one
-- more.
given_here : (first : Chooser) (before : Machine) (made : ℕ) (m : Machine) (chooser later : Chooser)
    → ((n : ℕ) → chooser_after_choices n chooser m ≡ chooser_after_choices (made + n) first before) → MayHaveGiven chooser m later
    → (later ≡ chooser_after_choices made first before) ⊎ (later ≡ chooser_after_choices (suc made) first before)
given_here first before made m chooser later left_behind (inl same) =
    inl (same ∙ sym (nothing_behind chooser m) ∙ left_behind 0 ∙ ap (λ k. chooser_after_choices k first before) (none_more made))
given_here first before made m chooser later left_behind (inr gave) =
    inr (gave ∙ sym (once_behind chooser m) ∙ left_behind 1 ∙ ap (λ k. chooser_after_choices k first before) (one_more_made made))

-- A run that breaks off here has taken the turns of some first choices.
pub broken_here : (before : Machine) (first : Chooser) (most : ℕ) (items_before : Option (List Item)) (made : ℕ) (choices : List ℕ) (outcomes : List Outcome) (m : Machine) (chooser later : Chooser) (items : Option (List Item))
    → AreTaken before first most items_before made choices outcomes m chooser items → MayHaveGiven chooser m later → BrokeOff before first most m later items_before items
broken_here before first most items_before made choices outcomes m chooser later items taken gave =
    let are : choices ≡ choices_from made first before =
    sym (append-nil choices) ∙ ap (λ l. choices ++ l) (sym (nothing_left chooser m)) ∙ taken.left 0 ∙ ap (λ k. choices_from k first before) (none_more made) in
    record {
      made = made;
      within = taken.within;
      state = taken.ran.1 ∙ ap (λ l. with_state before (run_of before l).state) are;
      items = taken.ran.2 ∙ ap (λ l. with_items items_before (run_of before l).items) are;
      given = given_here first before made m chooser later taken.left_behind gave;
    }

-- Lists that equal the choices and the outcomes are those of the run.
pub told : (before : Machine) (first : Chooser) (most : ℕ) (items_before : Option (List Item)) (made : ℕ) (choices more : List ℕ) (outcomes more_outcomes : List Outcome) (m : Machine) (chooser : Chooser) (items : Option (List Item))
    → AreTaken before first most items_before made choices outcomes m chooser items → more ≡ choices → more_outcomes ≡ outcomes → IsRun before more more_outcomes m items_before items
told before first most items_before made choices more outcomes more_outcomes m chooser items taken choices_are outcomes_are = rw (choices_are, outcomes_are) taken.ran

-- If the chooser gives none, these are all the choices.
pub all_given : (before : Machine) (first : Chooser) (most : ℕ) (items_before : Option (List Item)) (made : ℕ) (choices : List ℕ) (outcomes : List Outcome) (m : Machine) (chooser : Chooser) (items : Option (List Item))
    → AreTaken before first most items_before made choices outcomes m chooser items → choice_of chooser m ≡ None → choices ≡ choices_from most first before
all_given before first most items_before made choices outcomes m chooser items taken none =
    sym (append-nil choices)
    ∙ ap (λ l. choices ++ l) (sym (none_left (most - made) chooser m none))
    ∙ taken.left (most - made)
    ∙ ap (λ k. choices_from k first before) (up_to made most taken.within)

-- If the limit is reached, these are all the choices.
pub all_made : (before : Machine) (first : Chooser) (most : ℕ) (items_before : Option (List Item)) (made : ℕ) (choices : List ℕ) (outcomes : List Outcome) (m : Machine) (chooser : Chooser) (items : Option (List Item))
    → AreTaken before first most items_before made choices outcomes m chooser items → most ≤ made → choices ≡ choices_from most first before
all_made before first most items_before made choices outcomes m chooser items taken reached =
    sym (append-nil choices)
    ∙ ap (λ l. choices ++ l) (sym (nothing_left chooser m))
    ∙ taken.left 0
    ∙ ap (λ k. choices_from k first before) (none_up_to made most taken.within reached)

-- If the chooser gives none, what is left of it is the chooser after all the choices.
pub behind_all_given : (before : Machine) (first : Chooser) (most : ℕ) (items_before : Option (List Item)) (made : ℕ) (choices : List ℕ) (outcomes : List Outcome) (m : Machine) (chooser later : Chooser) (items : Option (List Item))
    → AreTaken before first most items_before made choices outcomes m chooser items → made < most → choice_of chooser m ≡ None → later ≡ chooser_after chooser m → later ≡ chooser_after_choices most first before
behind_all_given before first most items_before made choices outcomes m chooser later items taken below none later_is =
    later_is
    ∙ sym (none_behind (most - (made + 1)) chooser m none)
    ∙ taken.left_behind (suc (most - (made + 1)))
    ∙ ap (λ k. chooser_after_choices k first before) (one_more_up_to made most below)

-- If the limit is reached, this is the chooser after all the choices.
pub behind_all_made : (before : Machine) (first : Chooser) (most : ℕ) (items_before : Option (List Item)) (made : ℕ) (choices : List ℕ) (outcomes : List Outcome) (m : Machine) (chooser : Chooser) (items : Option (List Item))
    → AreTaken before first most items_before made choices outcomes m chooser items → most ≤ made → chooser ≡ chooser_after_choices most first before
behind_all_made before first most items_before made choices outcomes m chooser items taken reached =
    sym (nothing_behind chooser m)
    ∙ taken.left_behind 0
    ∙ ap (λ k. chooser_after_choices k first before) (none_up_to made most taken.within reached)

first_then_few : (n : ℕ) (o : Option ℕ) (rest : ℕ → List ℕ) → ((t : ℕ) → length (rest t) ≤ n) → length (first_then o rest) ≤ suc n
first_then_few n None rest few = omega arith
first_then_few n (Some t) rest few = let below = few t in omega arith

-- A chooser gives at most as many choices as are asked for.
pub choices_are_few : (n : ℕ) (chooser : Chooser) (m : Machine) → length (choices_from n chooser m) ≤ n
unfolding choices_from
choices_are_few zero chooser m = omega arith
choices_are_few (suc n) chooser m = first_then_few n (choice_of chooser m) _ (λ t. choices_are_few n (chooser_after chooser m) (after_turn m t))
