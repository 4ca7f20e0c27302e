use Rattle.std.proofs.Common.{◌≡◌, ◌++◌, map, drop}
use Rattle.jvms_machine.specs.Places.{places_of}
use Rattle.jvms_machine.specs.Start.{argument_value}
use Rattle.machine.proofs.opening.argument_places.Given as goal

abbrev pub invariant-loop-argument : goal.invariant-loop-argument
invariant-loop-argument l = l.places.items ++ places_of (map argument_value (drop l.argument-index l.arguments)) ≡ places_of (map argument_value l.arguments)
