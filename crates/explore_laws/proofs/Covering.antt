-- What the jobs of an exploration cover.
use Rattle.std.proofs.Common.{IsTrue, List, length, subst, sym, ℕ, ◌≤◌}
use Rattle.departures.proofs.Within.{runs_within}
use Rattle.departures.specs.Reductions.{seen_by}
use Rattle.departures.specs.Turns.{IsStuck, end_of}
use Rattle.explore_laws.proofs.Ended.{finished_is_stuck}
use Rattle.explore_laws.specs.Coverage.{EndsWell, IsGoodEnd, IsWholeRun, JobsEndWell}
use Rattle.jvms_machine.specs.Limits.{are_limits}
use Rattle.jvms_machine.specs.Run.{run_from}
use Rattle.jvms_machine.specs.Start.{IsStart, Start}
use Rattle.jvms_machine.specs.State.{Sound, State}
use Rattle.jvms_machine.specs.declared.machine.Limits.{Limits}
use Rattle.jvms_program.specs.Program.{IsProgram}
use Rattle.jvms_program.specs.declared.program.Class.{Class}
use Rattle.local_laws.specs.Local.{is_local}
use Rattle.local_turns.proofs.Covered.{end_is, judged}
use Rattle.local_turns.proofs.Items.{views_are_a_likeness}
use Rattle.local_turns.proofs.Turned.{are_local}
use Rattle.local_turns.specs.Turns.{items_in, turns_of, view_of}
use Rattle.velodrome.specs.Specification.{Specification}

module _ (program : List Class) (limits : Limits) (start : Start) (is : IsProgram program) (are : IsTrue (are_limits limits)) (starts : IsStart start) where
  within : (lines : Specification) (turns : ℕ) (s : State) (most : ℕ) → Sound program limits s → JobsEndWell program limits start lines turns s most → (choices : List ℕ) → IsWholeRun program limits start s most choices → length choices ≤ turns
  within lines turns s most sound good choices run =
      runs_within (turns_of program limits start) (is_local program limits start) (items_in program limits start) (seen_by view_of) views_are_a_likeness (Sound program limits)
      (are_local program limits start is are starts) turns s 0 most sound
      (λ level below ds job.
      let well = good level below ds job in
      subst (IsStuck (turns_of program limits start)) (sym (end_is program limits start _ s)) (finished_is_stuck program limits start _ well.finished))
      choices run.run (subst (IsStuck (turns_of program limits start)) (sym (end_is program limits start choices s)) run.ends) run.few

  pub covered : (lines : Specification) (turns : ℕ) (s : State) (most : ℕ) → Sound program limits s → JobsEndWell program limits start lines turns s most → (choices : List ℕ) → IsWholeRun program limits start s most choices → (length choices ≤ turns) × EndsWell program limits start lines s choices
  covered lines turns s most sound good choices run =
      let short = within lines turns s most sound good choices run in
      (short, judged program limits start is are starts lines (IsGoodEnd program limits start) turns s 0 most sound good choices run.run run.ends short run.few)
