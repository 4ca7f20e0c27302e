use Rattle.std.proofs.Common.{◌++◌}
use Rattle.std.specs.List.{flat_map}
use Rattle.jvms_program.specs.Resolution.{chain}
use Rattle.heap.specs.FirstValues.{values_down}
use Rattle.heap.proofs.ChainLaws.{Leaves}
use Rattle.heap.proofs.first_values.put_by_name.Given as goal

-- the values that are left to append
abbrev pub invariant-loop-most : goal.invariant-loop-most
invariant-loop-most l = Leaves l.program (l.initial.values.items ++ flat_map values_down (chain l.program l.fn.name)) l.values.items l.most l.name

abbrev pub decreases-loop-most : goal.decreases-loop-most
decreases-loop-most l = l.most
