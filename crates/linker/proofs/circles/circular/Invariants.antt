use Rattle.std.proofs.Common.{◌≡◌, false, take}
use Rattle.std.specs.List.{list_any}
use Rattle.linker.specs.Linking.{is_circular}
use Rattle.linker.proofs.circles.circular.Given as goal

-- none of the classes so far
abbrev pub invariant-loop-place : goal.invariant-loop-place
invariant-loop-place l = list_any (is_circular l.program) (take l.place l.classes) ≡ false
