use Rattle.std.proofs.Common.{◌≡◌, ◌++◌, map, drop}
use Rattle.jvms_machine.specs.Arrays.{length_of_value}
use Rattle.exec_ref.proofs.new_objects.lengths_of.Given as goal

abbrev pub invariant-loop-value : goal.invariant-loop-value
invariant-loop-value l = l.lengths.items ++ map length_of_value (drop l.value-index l.values) ≡ map length_of_value l.values
