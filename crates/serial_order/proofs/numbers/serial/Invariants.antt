use Rattle.std.proofs.Common.{◌≡◌, take}
use Rattle.serial_order.specs.Chains.{in_order}
use Rattle.serial_order.proofs.numbers.serial.Given as goal

-- The numbers are those of the transactions so far.
abbrev pub invariant-loop-transaction : goal.invariant-loop-transaction
invariant-loop-transaction l = l.numbers.items ≡ in_order l.transactions (take l.transaction-index l.order)
