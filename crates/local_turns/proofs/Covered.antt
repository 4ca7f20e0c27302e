-- What levels of jobs cover of a machine's runs.
use Rattle.std.proofs.Common.{Bool, IsTrue, List, [], ap, false, length, refl, subst, sym, ℕ, ◌++◌, ◌∙◌, ◌∷◌, ◌≡◌, ◌≤◌}
use Rattle.departures.proofs.Cover.{covered_by_jobs}
use Rattle.departures.proofs.Reduction.{each_is_stood_for}
use Rattle.departures.specs.Departures.{choices_of, departures}
use Rattle.departures.specs.Jobs.{AreGoodTo}
use Rattle.departures.specs.Reductions.{StandsFor, events_of, seen_by}
use Rattle.departures.specs.Turns.{IsRun, IsStuck, end_of}
use Rattle.jvms_machine.specs.Limits.{are_limits}
use Rattle.jvms_machine.specs.Run.{run_from}
use Rattle.jvms_machine.specs.Start.{IsStart, Start}
use Rattle.jvms_machine.specs.State.{Sound, State}
use Rattle.jvms_machine.specs.Turn.{turn}
use Rattle.jvms_machine.specs.declared.machine.Limits.{Limits}
use Rattle.jvms_machine.specs.declared.trace.Item.{Item}
use Rattle.jvms_program.specs.Program.{IsProgram}
use Rattle.jvms_program.specs.declared.program.Class.{Class}
use Rattle.mark_laws.proofs.Alike.{alike_are_swaps}
use Rattle.mark_laws.proofs.Swapped.{same_state}
use Rattle.mark_laws.specs.Swaps.{AreAlike}
use Rattle.local_turns.proofs.Items.{alike_by, views_are_a_likeness}
use Rattle.local_turns.proofs.Turned.{are_local}
use Rattle.local_laws.specs.Local.{is_local}
use Rattle.local_turns.specs.Turns.{items_in, turns_of, view_of}
use Rattle.velodrome.specs.Specification.{Specification}
use Rattle.velodrome.specs.Transactions.{TraceState, trace_state_of}

module _ (program : List Class) (limits : Limits) (start : Start) where
  pub end_is : (c : List ℕ) (s : State) → end_of (turns_of program limits start) s c ≡ (run_from program limits start s c).state
  unfolding end_of run_from
  end_is [] s = refl
  end_is (t ∷ c) s = end_is c (turn program limits start s t).state

  items_are : (c : List ℕ) (s : State) → events_of (turns_of program limits start) (items_in program limits start) s c ≡ (run_from program limits start s c).items
  unfolding events_of run_from
  items_are [] s = refl
  items_are (t ∷ c) s = ap (λ x. (turn program limits start s t).items ++ x) (items_are c (turn program limits start s t).state)

  -- What holds of the end and the items of a run holds of its end and events as a system of turns, and the other way.
  as_turns : (IsGood : State → List Item → Type 0) (c : List ℕ) (s : State)
      → IsGood (run_from program limits start s c).state (run_from program limits start s c).items
      → IsGood (end_of (turns_of program limits start) s c) (events_of (turns_of program limits start) (items_in program limits start) s c)
  as_turns IsGood c s good =
      subst (λ x. IsGood x (events_of (turns_of program limits start) (items_in program limits start) s c)) (sym (end_is c s))
      (subst (IsGood (run_from program limits start s c).state) (sym (items_are c s)) good)

  as_run : (IsGood : State → List Item → Type 0) (c : List ℕ) (s : State)
      → IsGood (end_of (turns_of program limits start) s c) (events_of (turns_of program limits start) (items_in program limits start) s c)
      → IsGood (run_from program limits start s c).state (run_from program limits start s c).items
  as_run IsGood c s good =
      subst (λ x. IsGood x (run_from program limits start s c).items) (end_is c s)
      (subst (IsGood (end_of (turns_of program limits start) s c)) (items_are c s) good)

  module _ (is : IsProgram program) (are : IsTrue (are_limits limits)) (starts : IsStart start) where
    pub covered : (IsGood : State → List Item → Type 0) → ((s : State) (xs ys : List Item) → AreAlike xs ys → IsGood s xs → IsGood s ys) → (turns : ℕ) (s : State) (last most : ℕ) → Sound program limits s
        → AreGoodTo (turns_of program limits start) (is_local program limits start) turns s last most (λ c. IsGood (run_from program limits start s c).state (run_from program limits start s c).items)
        → (c : List ℕ) → IsRun (turns_of program limits start) s c → IsStuck (turns_of program limits start) (run_from program limits start s c).state
        → length c ≤ turns → departures (turns_of program limits start) s last c ≤ most
        → IsGood (run_from program limits start s c).state (run_from program limits start s c).items
    covered IsGood same turns s last most sound good c run stuck within few =
        as_run IsGood c s
        (covered_by_jobs (turns_of program limits start) (is_local program limits start) (items_in program limits start) (seen_by view_of) views_are_a_likeness (Sound program limits)
        (are_local program limits start is are starts) IsGood (λ x xs ys alike. same x xs ys (alike_by xs ys alike)) turns s last most sound
        (λ level below ds job. as_turns IsGood (choices_of (turns_of program limits start) turns 0 s last ds) s (good level below ds job))
        c run (subst (IsStuck (turns_of program limits start)) (sym (end_is c s)) stuck) within few)

    pub judged : (lines : Specification) (IsGood : State → TraceState → Type 0) (turns : ℕ) (s : State) (last most : ℕ) → Sound program limits s
        → AreGoodTo (turns_of program limits start) (is_local program limits start) turns s last most (λ c. IsGood (run_from program limits start s c).state (trace_state_of lines (run_from program limits start s c).items))
        → (c : List ℕ) → IsRun (turns_of program limits start) s c → IsStuck (turns_of program limits start) (run_from program limits start s c).state
        → length c ≤ turns → departures (turns_of program limits start) s last c ≤ most
        → IsGood (run_from program limits start s c).state (trace_state_of lines (run_from program limits start s c).items)
    judged lines IsGood turns s last most sound good c run stuck within few =
        covered (λ x items. IsGood x (trace_state_of lines items)) (λ x xs ys alike good. subst (IsGood x) (same_state lines xs ys (alike_are_swaps xs ys alike)) good) turns s last most sound good c run stuck within few

    -- A run that ends has a reduced one with an alike trace.
    pub stood_for : (s : State) (last : ℕ) (c : List ℕ) → Sound program limits s → IsRun (turns_of program limits start) s c → IsStuck (turns_of program limits start) (run_from program limits start s c).state
        → (d : List ℕ) × StandsFor (turns_of program limits start) (is_local program limits start) (items_in program limits start) (seen_by view_of) s last c d
    stood_for s last c sound run stuck =
        each_is_stood_for (turns_of program limits start) (is_local program limits start) (items_in program limits start) (seen_by view_of) views_are_a_likeness (Sound program limits)
        (are_local program limits start is are starts) s last c sound run (subst (IsStuck (turns_of program limits start)) (sym (end_is c s)) stuck)
