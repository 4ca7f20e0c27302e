use Rattle.std.proofs.Common.{length, ◌-◌, ◌≡◌, ◌++◌, ℕ, List}
use Rattle.serial_order.specs.Chains.{IsChain}
use Rattle.serial_order.proofs.numbers.push_chain.Given as goal

-- What is left of each chain that is to be appended.
abbrev pub invariant-loop-event : goal.invariant-loop-event
invariant-loop-event l = (chain : List ℕ) → IsChain l.next l.fn.first chain → (rest : List ℕ) × IsChain l.next l.event rest × (l.initial.numbers.items ++ chain ≡ l.numbers.items ++ rest)

abbrev pub decreases-loop-event : goal.decreases-loop-event
decreases-loop-event l = length l.next - l.event
