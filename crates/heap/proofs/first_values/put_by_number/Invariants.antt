use Rattle.std.proofs.Common.{◌++◌}
use Rattle.std.specs.List.{flat_map}
use Rattle.jvms_program.specs.Resolution.{chain}
use Rattle.heap.specs.FirstValues.{values_down}
use Rattle.heap.specs.Stored.{name_at}
use Rattle.heap.proofs.ChainLaws.{LeavesAt}
use Rattle.heap.proofs.first_values.put_by_number.Given as goal

-- the values that are left to append
abbrev pub invariant-loop : goal.invariant-loop
invariant-loop l = LeavesAt l.program (l.initial.values.items ++ flat_map values_down (chain l.program (name_at l.program l.class))) l.values.items l.at
