use Rattle.std.proofs.Common.{◌≡◌, length}
use Rattle.jvms_program.specs.Resolution.{chain, first_in}
use Rattle.classes.specs.Chains.{classes_left}
use Rattle.classes.specs.Places.{match_with_number}
use Rattle.classes.proofs.walk.first_up.Given as goal

abbrev pub decreases-loop-number : goal.decreases-loop-number
decreases-loop-number g l = length (classes_left l.up)

-- what is left to search
abbrev pub invariant-loop-number : goal.invariant-loop-number
invariant-loop-number g l = record {
  left :
      first_in (match_with_number l.program (g.L.Look.gives l.look)) (chain l.program l.fn.name)
      ≡ first_in (match_with_number l.program (g.L.Look.gives l.look)) (classes_left l.up);
  program : l.up.program.now ≡ l.program;
}
