-- The items so far were accepted, and the first refused item of the rest is the first of all.
use Rattle.std.proofs.Common.{◌≡◌, ◌+◌, drop, take}
use Rattle.atom_graph.specs.Checking.{Fed}
use Rattle.trace_check.specs.Checks.{fed_nothing, first_refused}
use Rattle.trace_check.proofs.feeding.fed.Given as goal

abbrev pub invariant-loop-place : goal.invariant-loop-place
invariant-loop-place l = record {
  fed : l.checker ≡ record { lines = l.fn.spec; items = take l.place l.items };
  left : first_refused l.checker (l.place + 1) (drop l.place l.items) ≡ first_refused (fed_nothing l.fn.spec) 1 l.items;
}
