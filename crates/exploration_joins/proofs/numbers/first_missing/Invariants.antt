-- The numbers so far are less than the next one, and all below it are there.
use Rattle.exploration_joins.proofs.Sorted.{IsNext}
use Rattle.exploration_joins.proofs.numbers.first_missing.Given as goal

abbrev pub invariant-loop-number : goal.invariant-loop-number
invariant-loop-number l = IsNext l.numbers l.number-index l.next
