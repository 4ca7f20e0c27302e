-- The lines so far.
use Rattle.std.proofs.Common.{◌≡◌, ◌++◌, take}
use Rattle.std.specs.List.{flat_map}
use Rattle.std.specs.String.{string_bytes}
use Rattle.report.specs.CycleTexts.{transaction_line}
use Rattle.report.proofs.cycle.put_transactions.Given as goal

abbrev pub invariant-loop-transaction : goal.invariant-loop-transaction
invariant-loop-transaction l =
    string_bytes l.out ≡ string_bytes l.fn.out ++ flat_map (transaction_line l.trace) (take l.transaction-index l.transactions)
