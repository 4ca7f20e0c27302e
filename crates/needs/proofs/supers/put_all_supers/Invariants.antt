-- The lines so far.
use Rattle.std.proofs.Common.{◌≡◌, ◌++◌, take, flat_map}
use Rattle.std.specs.String.{string_bytes}
use Rattle.needs.specs.Supers.{lines_of_supers}
use Rattle.needs.proofs.supers.put_all_supers.Given as goal

abbrev pub invariant-loop-class : goal.invariant-loop-class
invariant-loop-class l =
    string_bytes l.out ≡ string_bytes l.initial.out ++ flat_map (lines_of_supers l.list) (take l.class-index l.classes)
