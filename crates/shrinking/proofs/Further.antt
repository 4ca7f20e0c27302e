-- Choices that go on by the default, with no further departure.
use Rattle.std.proofs.Common.{Bool, List, [], ap, arith, false, length, subst, sym, true, ℕ, suc, zero, ◌++◌, ◌+◌, ◌∷◌, ◌≡◌, ◌≤◌}
use Rattle.std.proofs.lemmas.Bool.{false≢true}
use Rattle.departures.proofs.Tree.{default_run}
use Rattle.departures.specs.Departures.{is_default, name_of, named}
use Rattle.departures.specs.Turns.{CanTake, IsRun, IsSchedule, Turns}
use Rattle.departures.specs.declared.departure.Departure.{Departure}
use Rattle.explore_jobs.specs.Children.{turns_in}
use Rattle.machine.specs.Machine.{Machine}
use Rattle.runs.specs.Choices.{choices_from}
use Rattle.schedule.specs.Choosers.{chooser_of_schedule}
use Rattle.schedule.specs.Schedules.{Staying}
use Rattle.shrinking.specs.Further.{GoesOn}

module _ {S : Type 0} (sys : Turns S) where
  no_turn : S → ℕ → Bool
  no_turn s t = false

  no_start : (s : S) (t : ℕ) → no_turn s t ≡ true → CanTake sys s t
  unfolding no_turn
  no_start s t is = absurd (false≢true is)

  -- The default's choices follow a run, until it is a schedule.
  pub further : (c : List ℕ) (n k : ℕ) (s : S) (last : ℕ) → IsRun sys s c → length c ≤ n
      → (rest : List ℕ) × IsSchedule sys n s (c ++ rest) × (name_of sys k s last (c ++ rest) ≡ name_of sys k s last c)
  unfolding IsRun IsSchedule name_of
  further [] n k s last run less = let rest = default_run sys no_turn no_start n k s last in (rest.0, rest.1.schedule, rest.1.name)
  further (t ∷ c) zero k s last run less = absurd (omega (arith, less))
  further (t ∷ c) (suc n) k s last run less =
      let later = further c n (k + 1) (sys.after s t) t run.1 (omega (arith, less)) in
      (later.0, (run.0, later.1), ap (named (is_default sys s last t) k t) later.2)

-- If the departures of each schedule make its choices, those of a run make the choices of some schedule that goes on by the
-- default.
pub goes_on : (m : Machine) (turns : ℕ) (choices : List ℕ) → IsRun (turns_in m) m.state choices → length choices ≤ turns
    → ((whole : List ℕ) → IsSchedule (turns_in m) turns m.state whole
    → choices_from turns (chooser_of_schedule (Staying (name_of (turns_in m) 0 m.state 0 whole))) m ≡ whole)
    → GoesOn m turns choices (choices_from turns (chooser_of_schedule (Staying (name_of (turns_in m) 0 m.state 0 choices))) m)
goes_on m turns choices run less makes =
    let more = further (turns_in m) choices turns 0 m.state 0 run less in
    let same = subst (λ (ds : List Departure). choices_from turns (chooser_of_schedule (Staying ds)) m ≡ choices ++ more.0) more.2 (makes (choices ++ more.0) more.1) in
    record {
      rest = more.0;
      begins = same;
      schedule = subst (λ (c : List ℕ). IsSchedule (turns_in m) turns m.state c) (sym same) more.1;
      name = subst (λ (c : List ℕ). name_of (turns_in m) 0 m.state 0 c ≡ name_of (turns_in m) 0 m.state 0 choices) (sym same) more.2;
    }
