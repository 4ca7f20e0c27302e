-- The edges so far, and those that are left.
use Rattle.std.proofs.Common.{◌≡◌, ◌-◌, ◌++◌, min, length, flat_map}
use Rattle.std.specs.List.{range_with_len}
use Rattle.std.specs.String.{string_bytes}
use Rattle.report.specs.CycleTexts.{all_edge_lines, edge_at}
use Rattle.report.proofs.cycle.put_edges.Given as goal

abbrev pub invariant-loop-place : goal.invariant-loop-place
invariant-loop-place l =
    string_bytes l.out ++ flat_map (edge_at l.trace l.transactions l.pairs) (range_with_len l.place (l.place-end - l.place))
    ≡ string_bytes l.fn.out ++ all_edge_lines l.fn.trace l.transactions l.pairs
