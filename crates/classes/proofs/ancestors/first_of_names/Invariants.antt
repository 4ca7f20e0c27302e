use Rattle.std.proofs.Common.{◌≡◌, drop}
use Rattle.std.specs.List.{flat_map}
use Rattle.jvms_program.specs.Resolution.{ancestry, first_in}
use Rattle.classes.specs.Places.{match_with_number}
use Rattle.classes.proofs.ancestors.first_of_names.Given as goal

-- the names so far give nothing
abbrev pub invariant-loop-name : goal.invariant-loop-name
invariant-loop-name g l =
    first_in (match_with_number l.program (g.L.Look.gives l.look)) (flat_map (ancestry l.program) l.names)
    ≡ first_in (match_with_number l.program (g.L.Look.gives l.look)) (flat_map (ancestry l.program) (drop l.name-index l.names))
