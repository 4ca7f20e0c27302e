use Rattle.std.proofs.Common.{map, Some, ◌++◌, ◌≡◌}
use Rattle.exploring.proofs.batch.all_of.Given as goal

abbrev pub invariant-loop-one : goal.invariant-loop-one
invariant-loop-one g l = l.fn.found.items ≡ map Some l.all.items ++ l.one-iterator.rest.items
