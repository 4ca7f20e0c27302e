-- The methods are those of the trace state of the items so far, from which the remaining items continue.
use Rattle.std.proofs.Common.{◌≡◌, drop, map, reverse}
use Rattle.std.specs.List.{fold}
use Rattle.velodrome.specs.Specification.{Specification}
use Rattle.velodrome.specs.Transactions.{TraceState, trace_state_of, state_after_item}
use Rattle.report.proofs.actor.open_methods.Given as goal

abbrev pub invariant-loop-item : goal.invariant-loop-item
invariant-loop-item l =
    (lines : Specification) → (w : TraceState) × (reverse (map (λ m. m.now) l.methods.items) ≡ (w.threads l.thread).methods)
    × (fold (state_after_item lines) w (drop l.item-index l.items) ≡ trace_state_of lines l.items)
