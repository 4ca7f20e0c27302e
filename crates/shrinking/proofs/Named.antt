-- Steps of a run whose choices are named.
use Rattle.std.proofs.Common.{Bool, List, None, Option, Some, [], ap, false, refl, sym, true, ℕ, suc, zero, ◌++◌, ◌+◌, ◌-◌, ◌<◌, ◌∙◌, ◌∷◌, ◌≡◌, ◌≤◌}
use Rattle.departures.proofs.Walks.{none_from, one_fewer, part_end, part_step}
use Rattle.departures.specs.Departures.{default_of, is_just, name_of, named}
use Rattle.departures.specs.Turns.{Turns}
use Rattle.departures.specs.declared.departure.Departure.{Departure}
use Rattle.explore_jobs.proofs.Taken.{default_in, taken_state}
use Rattle.explore_jobs.specs.Children.{turns_in}
use Rattle.machine.specs.Machine.{Machine, transition_of, with_state}
use Rattle.runs.specs.Choices.{after_turn, choices_from, first_then}
use Rattle.schedule.specs.Choosers.{Chooser, next}
use Rattle.schedule.specs.Enabled.{enabled_threads}

-- ---- Choices

one_more : (n : ℕ) (chooser later : Chooser) (m : Machine) (t : ℕ) → (next chooser (enabled_threads m)).0 ≡ Some t → later ≡ (next chooser (enabled_threads m)).1
    → choices_from (suc n) chooser m ≡ t ∷ choices_from n later (after_turn m t)
unfolding choices_from
one_more n chooser later m t is left =
    ap (λ o. first_then o (λ u. choices_from n (next chooser (enabled_threads m)).1 (after_turn m u))) is
    ∙ ap (λ x. t ∷ choices_from n x (after_turn m t)) (sym left)

no_more : (n : ℕ) (chooser : Chooser) (m : Machine) → (next chooser (enabled_threads m)).0 ≡ None → choices_from n chooser m ≡ []
unfolding choices_from
no_more zero chooser m is = refl
no_more (suc n) chooser m is = ap (λ o. first_then o (λ u. choices_from n (next chooser (enabled_threads m)).1 (after_turn m u))) is

no_turns : (n : ℕ) (chooser : Chooser) (m : Machine) → n ≡ 0 → choices_from n chooser m ≡ []
unfolding choices_from
no_turns zero chooser m is = refl
no_turns (suc n) chooser m is = absurd (cc)

-- ---- Names

front : (b : Bool) (k t : ℕ) (rest : List Departure) → named b k t rest ≡ named b k t [] ++ rest
front true k t rest = refl
front false k t rest = refl

module _ {S : Type 0} (sys : Turns S) where
  no_name : (k : ℕ) (s : S) (last : ℕ) → name_of sys k s last [] ≡ []
  unfolding name_of
  no_name k s last = refl

  name_step : (k : ℕ) (s : S) (last t : ℕ) (c : List ℕ) → name_of sys k s last (t ∷ c) ≡ named (is_just (default_of sys s last) t) k t [] ++ name_of sys (k + 1) (sys.after s t) t c
  unfolding name_of
  name_step k s last t c = front (is_just (default_of sys s last) t) k t (name_of sys (k + 1) (sys.after s t) t c)

  -- A choice that is named by this default, and leads to this state.
  pub name_to : (k : ℕ) (s : S) (last t : ℕ) (c ahead : List ℕ) (default : Option ℕ) (later : S) → ahead ≡ t ∷ c → default ≡ default_of sys s last → later ≡ sys.after s t
      → name_of sys k s last ahead ≡ named (is_just default t) k t [] ++ name_of sys (k + 1) later t c
  name_to k s last t c ahead default later step is moved =
      ap (name_of sys k s last) step
      ∙ name_step k s last t c
      ∙ ap (λ d. named (is_just d t) k t [] ++ name_of sys (k + 1) (sys.after s t) t c) (sym is)
      ∙ ap (λ x. named (is_just default t) k t [] ++ name_of sys (k + 1) x t c) (sym moved)

  name_end : (k : ℕ) (s : S) (last : ℕ) (ahead : List ℕ) → ahead ≡ [] → name_of sys k s last ahead ≡ []
  name_end k s last ahead none = ap (name_of sys k s last) none ∙ no_name k s last

-- ---- The loop

-- One choice is named, and its turn is taken.
pub named_on : (m now after : Machine) (chooser later : Chooser) (k most last t : ℕ) (default : Option ℕ) (before more all : List Departure)
    → k < most → now ≡ with_state m now.state → default ≡ default_of (turns_in now) now.state last
    → (next chooser (enabled_threads now)).0 ≡ Some t → later ≡ (next chooser (enabled_threads now)).1
    → after ≡ with_state now (transition_of now t).state
    → more ≡ before ++ named (is_just default t) k t []
    → before ++ name_of (turns_in m) k now.state last (choices_from (most - k) chooser now) ≡ all
    → more ++ name_of (turns_in m) (k + 1) after.state t (choices_from (most - (k + 1)) later after) ≡ all
named_on m now after chooser later k most last t default before more all less same is chosen left taken pushed so_far =
    let ahead : choices_from (most - k) chooser now ≡ t ∷ choices_from (most - (k + 1)) later after =
    ap (λ n. choices_from n chooser now) (one_fewer k most less)
    ∙ one_more (most - (k + 1)) chooser later now t chosen left
    ∙ ap (λ x. t ∷ choices_from (most - (k + 1)) later x) (sym taken) in
    let step = name_to (turns_in m) k now.state last t (choices_from (most - (k + 1)) later after) (choices_from (most - k) chooser now) default after.state ahead (default_in m now last same is) (taken_state m now t after same taken) in
    part_step before more (named (is_just default t) k t []) (name_of (turns_in m) k now.state last (choices_from (most - k) chooser now)) (name_of (turns_in m) (k + 1) after.state t (choices_from (most - (k + 1)) later after)) all so_far step pushed

-- No choice is left, or no turn.
pub named_all : (m now : Machine) (chooser : Chooser) (k most last : ℕ) (before all : List Departure)
    → (next chooser (enabled_threads now)).0 ≡ None
    → before ++ name_of (turns_in m) k now.state last (choices_from (most - k) chooser now) ≡ all → before ≡ all
named_all m now chooser k most last before all none so_far =
    part_end before _ all so_far (name_end (turns_in m) k now.state last (choices_from (most - k) chooser now) (no_more (most - k) chooser now none))

pub named_most : (m now : Machine) (chooser : Chooser) (k most last : ℕ) (before all : List Departure) → most ≤ k
    → before ++ name_of (turns_in m) k now.state last (choices_from (most - k) chooser now) ≡ all → before ≡ all
named_most m now chooser k most last before all past so_far =
    part_end before _ all so_far (name_end (turns_in m) k now.state last (choices_from (most - k) chooser now) (no_turns (most - k) chooser now (none_from k most past)))
