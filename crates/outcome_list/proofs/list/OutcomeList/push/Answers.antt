-- The kind and the names of one more outcome.
use Rattle.outcome_list.proofs.Lists.{more_fit, one_more}
use Rattle.outcome_list.proofs.list.OutcomeList.push.Goals as goal

pub invariant_of-self-2 : goal.invariant_of-self-2
invariant_of-self-2 c =
    rw (c.push_reserved.ensures.items, c.reserve.ensures.items, c.of.ensures, c.in_ok-push.ensures.ok) (more_fit _ _ _ c.self.invariant)

pub returns-clause-ok : goal.returns-clause-ok
returns-clause-ok c =
    rw (c.push_reserved.ensures.items, c.reserve.ensures.items, c.of.ensures, c.in_ok-push.ensures.ok, ← c.self.view_is) (one_more _ _ _ c.self.invariant)
