-- A chooser of the departures that name a schedule gives the schedule's choices.
use Rattle.std.proofs.Common.{Bool, List, None, Option, Some, [], ap, arith, false, refl, subst, sym, true, ℕ, pred, suc, zero, ◌+◌, ◌-◌, ◌<◌, ◌≤◌, ◌∙◌, ◌∷◌, ◌≡◌}
use Rattle.std.proofs.lemmas.Bool.{false≢true}
use Rattle.std.proofs.lemmas.Bool.Decides.{nat_tests}
use Rattle.std.specs.List.{list_any}
use Rattle.std.specs.Prelude.{if◌then◌else◌, nat_eq, nat_lt, ◌&&◌}
use Rattle.departures.proofs.Defaults.{default_is}
use Rattle.departures.proofs.Names.{no_default}
use Rattle.departures.specs.Departures.{default_of, is_default, name_of, named}
use Rattle.departures.specs.Turns.{CanTake, IsSchedule, Turns}
use Rattle.departures.specs.declared.departure.Departure.{Departure}
use Rattle.explore_laws.proofs.Defaults as enabled
use Rattle.jvms_machine.specs.State.{State}
use Rattle.local_turns.specs.Turns.{turns_of}
use Rattle.runs.specs.machine.Machine.{Machine, with_state}
use Rattle.runs.specs.Choices.{after_turn, choices_from, first_then}
use Rattle.schedule.specs.Choosers.{Chooser, Listed, Staying, default, next, stay, stay_or_depart, turns_before}
use Rattle.schedule.specs.Enabled.{enabled_threads}

-- ---- The chooser's next choice

-- The first departure isn't before a position.
abbrev FirstFrom : ℕ → List Departure → Type 0
FirstFrom k [] = Unit {0}
FirstFrom k (d ∷ ds) = k ≤ d.position

first_named : (b : Bool) (k t : ℕ) (ds : List Departure) → FirstFrom (k + 1) ds → FirstFrom k (named b k t ds)
first_named true k t [] from = tt
first_named true k t (d ∷ ds) from = omega (arith, from)
first_named false k t ds from = omega arith

first_from : {S : Type 0} (sys : Turns S) (c : List ℕ) (k : ℕ) (s : S) (last : ℕ) → FirstFrom k (name_of sys k s last c)
unfolding name_of
first_from sys [] k s last = tt
first_from sys (t ∷ c) k s last =
    first_named (is_default sys s last t) k t (name_of sys (k + 1) (sys.after s t) t c) (first_from sys c (k + 1) (sys.after s t) t)

-- Before the next departure the choice is the default.
stays : (k last t : ℕ) (ds : List Departure) (threads : List ℕ) → FirstFrom (k + 1) ds → default last threads ≡ Some t → next (Staying (turns_before k ds) last ds) threads ≡ (Some t, Staying (turns_before (k + 1) ds) t ds)
stays k last t [] threads from is = ap (stay 0 last []) is
stays k last t (d ∷ ds) threads from is =
    let before : d.position - k ≡ suc (d.position - (k + 1)) = omega (arith, from) in
    ap (λ x. stay_or_depart x last (d ∷ ds) threads) before ∙ ap (stay (suc (d.position - (k + 1))) last (d ∷ ds)) is

-- At a departure it is the departure's thread.
departs : (k last t : ℕ) (ds : List Departure) (threads : List ℕ) → list_any (λ u. nat_eq u t) threads ≡ true → next (Staying (turns_before k (record { position = k; thread = t } ∷ ds)) last (record { position = k; thread = t } ∷ ds)) threads ≡ (Some t, Staying (turns_before (k + 1) ds) t ds)
departs k last t ds threads on =
    let now : k - k ≡ 0 = omega arith in
    ap (λ x. stay_or_depart x last (record { position = k; thread = t } ∷ ds) threads) now
    ∙ ap (λ b. (Some t, if b then Staying (turns_before (k + 1) ds) t ds else Listed [])) on

both_on : (a b : Bool) → a ≡ true → b ≡ true → (a && b) ≡ true
both_on true b first second = second
both_on false b first second = absurd (false≢true first)

none_stays : (k last : ℕ) (threads : List ℕ) → default last threads ≡ None → next (Staying (turns_before k []) last []) threads ≡ (None, Staying 0 last [])
none_stays k last threads is = ap (stay 0 last []) is

-- ---- All choices

module _ (m : Machine) where
  sys : Turns State
  sys = turns_of m.program m.limits m.start

  named_next : (b : Bool) (k : ℕ) (s : State) (last t : ℕ) (ds : List Departure) → is_default sys s last t ≡ b → CanTake sys s t → FirstFrom (k + 1) ds
      → next (Staying (turns_before k (named b k t ds)) last (named b k t ds)) (enabled_threads (with_state m s)) ≡ (Some t, Staying (turns_before (k + 1) ds) t ds)
  unfolding sys
  named_next true k s last t ds is can from = stays k last t ds (enabled_threads (with_state m s)) from (enabled.default_is sys s last ∙ default_is sys s last t is)
  named_next false k s last t ds is can from =
      let started : nat_lt t (sys.threads s) ≡ true = grind (arith, nat_tests, can.started) in
      departs k last t ds (enabled_threads (with_state m s)) (enabled.is_on sys s t (sys.threads s) ∙ both_on (nat_lt t (sys.threads s)) (sys.is_enabled s t) started can.on)

  choices_with : (n : ℕ) (chooser later : Chooser) (s : State) (t : ℕ) → next chooser (enabled_threads (with_state m s)) ≡ (Some t, later)
      → choices_from (suc n) chooser (with_state m s) ≡ t ∷ choices_from n later (with_state m (sys.after s t))
  unfolding choices_from sys
  choices_with n chooser later s t is = ap (λ (x : Option ℕ × Chooser). first_then x.0 (λ u. choices_from n x.1 (after_turn (with_state m s) u))) is

  no_choices : (n : ℕ) (chooser later : Chooser) (s : State) → next chooser (enabled_threads (with_state m s)) ≡ (None, later) → choices_from (suc n) chooser (with_state m s) ≡ []
  unfolding choices_from
  no_choices n chooser later s is = ap (λ (x : Option ℕ × Chooser). first_then x.0 (λ u. choices_from n x.1 (after_turn (with_state m s) u))) is

  none_chosen : (chooser : Chooser) (s : State) → choices_from zero chooser (with_state m s) ≡ []
  unfolding choices_from
  none_chosen chooser s = refl

  -- The choices of a chooser of a schedule's name are the schedule.
  pub follows : (n : ℕ) (c : List ℕ) (k : ℕ) (s : State) (last : ℕ) → IsSchedule (turns_of m.program m.limits m.start) n s c
      → choices_from n (Staying (turns_before k (name_of (turns_of m.program m.limits m.start) k s last c)) last (name_of (turns_of m.program m.limits m.start) k s last c)) (with_state m s) ≡ c
  unfolding IsSchedule name_of sys
  follows zero [] k s last is = none_chosen (Staying 0 last []) s
  follows zero (t ∷ c) k s last is = absurd is
  follows (suc n) [] k s last is = no_choices n (Staying 0 last []) (Staying 0 last []) s (none_stays k last (enabled_threads (with_state m s)) (enabled.default_is sys s last ∙ no_default sys s last is))
  follows (suc n) (t ∷ c) k s last is =
      let rest = name_of sys (k + 1) (sys.after s t) t c in
      let b = is_default sys s last t in
      choices_with n (Staying (turns_before k (named b k t rest)) last (named b k t rest)) (Staying (turns_before (k + 1) rest) t rest) s t
      (named_next b k s last t rest refl is.0 (first_from sys c (k + 1) (sys.after s t) t))
      ∙ ap (λ x. t ∷ x) (follows n c (k + 1) (sys.after s t) t is.1)
