-- The outcome `Ran` has no names.
use Rattle.outcome_list.proofs.Lists.{ran_fit, ran_more}
use Rattle.outcome_list.proofs.list.OutcomeList.push_ran.Goals as goal

pub invariant_of-self-2 : goal.invariant_of-self-2
invariant_of-self-2 c = rw c.in_ok-put_ran.ensures.ok (ran_fit _ _ _ c.self.invariant)

pub returns-clause-ok : goal.returns-clause-ok
returns-clause-ok c = rw (c.in_ok-put_ran.ensures.ok, ← c.self.view_is) (ran_more _ _ _ c.self.invariant)
