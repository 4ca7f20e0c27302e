-- The lines so far.
use Rattle.std.proofs.Common.{◌≡◌, ◌++◌, take, flat_map}
use Rattle.std.specs.String.{string_bytes}
use Rattle.needs.specs.Supers.{line_of_super}
use Rattle.needs.proofs.supers.put_interfaces.Given as goal

abbrev pub invariant-loop-name : goal.invariant-loop-name
invariant-loop-name l =
    string_bytes l.out ≡ string_bytes l.initial.out ++ flat_map (line_of_super l.list l.class.name) (take l.name-index l.names)
