-- The list is the outcomes before the index, followed by those that are still to be read.
use Rattle.std.proofs.Common.{◌≡◌, ◌++◌, drop}
use Rattle.outcome_list.specs.Stored.{outcomes_by}
use Rattle.outcome_list.proofs.list.OutcomeList.outcomes.Given as goal

abbrev pub invariant-loop-kind : goal.invariant-loop-kind
invariant-loop-kind l = outcomes_by l.kind-items l.initial.names ≡ l.outcomes ++ outcomes_by (drop l.kind-index l.kind-items) l.names
