-- The lines of the elements before the index are followed by the rest.
use Rattle.std.proofs.Common.{◌≡◌, ◌++◌, drop, flat_map}
use Rattle.std.specs.List.{enumerate_from}
use Rattle.std.specs.String.{string_bytes}
use Rattle.machine_text.specs.Objects.{element_line}
use Rattle.machine_text.specs.Parts.{elements_at}
use Rattle.machine_text.proofs.object.put_elements.Given as goal

abbrev pub invariant-loop-index : goal.invariant-loop-index
invariant-loop-index l =
    string_bytes l.out
    ++ flat_map element_line (enumerate_from l.index (drop l.index (elements_at l.machine l.reference)))
    ≡ string_bytes l.initial.out ++ flat_map element_line (enumerate_from 0 (elements_at l.machine l.reference))
