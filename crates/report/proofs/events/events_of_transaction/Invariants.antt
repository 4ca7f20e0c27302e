-- The numbers so far, and those among the events that are left.
use Rattle.std.proofs.Common.{◌≡◌, ◌+◌, ◌++◌, ◌==◌, drop}
use Rattle.report.specs.CycleTexts.{events_of_transaction, places_where}
use Rattle.report.proofs.events.events_of_transaction.Given as goal

abbrev pub invariant-loop-place : goal.invariant-loop-place
invariant-loop-place l =
    l.numbers.items ++ places_where (λ b. b == l.transaction) (l.place + 1) (drop l.place l.transactions)
    ≡ events_of_transaction l.transaction l.transactions
