use Rattle.std.proofs.Common.{◌≡◌, ◌++◌, map, drop}
use Rattle.jvms_machine.specs.Opening.{opening_initialisation}
use Rattle.machine.proofs.opening.initialisations.Given as goal

abbrev pub invariant-loop-number : goal.invariant-loop-number
invariant-loop-number l = l.marks.items ++ map opening_initialisation (drop l.number l.program) ≡ map opening_initialisation l.program
