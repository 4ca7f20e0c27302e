-- The items of the run may be fed.
use Rattle.program_runs.proofs.ShownRuns.{shown_may_be_fed}
use Rattle.program_runs.specs.Shown.{view_of_traced}
use Rattle.judge.proofs.judging.run_and_judge.Goals as goal

pub judge_trace-requires : goal.judge_trace-requires
judge_trace-requires c =
    λ lines. shown_may_be_fed lines _ _ _ _ _ (view_of_traced c.in_ok-traced.traced) c.program_invariant.ensures c.turns.ensures.within c.in_ok-traced.ensures.shown
