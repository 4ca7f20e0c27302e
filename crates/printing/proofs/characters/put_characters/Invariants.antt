-- The bytes so far, followed by those of the units that are left, are all the bytes. The bytes before the call are
-- still in front.
use Rattle.std.proofs.Common.{◌≡◌, ◌++◌, length, take}
use Rattle.jvms_machine.specs.Output.{text_bytes}
use Rattle.printing.proofs.characters.put_characters.Given as goal

abbrev pub invariant-loop-rest : goal.invariant-loop-rest
invariant-loop-rest l =
    (l.out.items ++ text_bytes l.rest ≡ l.fn.out.items ++ text_bytes l.units)
    × (take (length l.fn.out.items) l.out.items ≡ l.fn.out.items)

abbrev pub decreases-loop-rest : goal.decreases-loop-rest
decreases-loop-rest l = length l.rest
