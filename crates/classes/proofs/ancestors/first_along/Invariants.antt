use Rattle.std.proofs.Common.{◌≡◌, true}
use Rattle.std.specs.List.{flat_map, list_all}
use Rattle.jvms_program.specs.Program.{class_number}
use Rattle.jvms_program.specs.Resolution.{ancestry, chain, chain_within, first_in}
use Rattle.classes.specs.Hierarchy.{to_list}
use Rattle.classes.specs.Marks.{is_marked}
use Rattle.classes.specs.Places.{match_with_number}
use Rattle.classes.proofs.ancestors.first_along.Given as goal

-- the search continues up from the class of this name
abbrev pub invariant-loop-left : goal.invariant-loop-left
invariant-loop-left g l = record {
  nothing :
      first_in (λ c. first_in (match_with_number l.program (g.L.Look.gives l.look)) (flat_map (ancestry l.program) c.interfaces)) (chain l.program l.fn.name)
      ≡ first_in (λ c. first_in (match_with_number l.program (g.L.Look.gives l.look)) (flat_map (ancestry l.program) c.interfaces)) (chain_within l.left l.program l.name);
  reached : list_all (is_marked l.reached) (to_list (class_number l.program l.name)) ≡ true;
}

abbrev pub decreases-loop-left : goal.decreases-loop-left
decreases-loop-left g l = l.left
