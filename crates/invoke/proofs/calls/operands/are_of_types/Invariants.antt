use Rattle.std.proofs.Common.{◌≡◌, drop}
use Rattle.jvms_machine.specs.Calls.{are_of_types}
use Rattle.invoke.proofs.calls.operands.are_of_types.Given as goal

abbrev pub invariant-loop-t : goal.invariant-loop-t
invariant-loop-t l = are_of_types (drop l.t-index l.types) l.rest ≡ are_of_types l.types l.places
