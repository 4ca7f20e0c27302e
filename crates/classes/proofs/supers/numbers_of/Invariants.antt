use Rattle.std.proofs.Common.{◌≡◌, take}
use Rattle.classes.specs.Hierarchy.{numbers_of}
use Rattle.classes.proofs.supers.numbers_of.Given as goal

-- the numbers so far
abbrev pub invariant-loop-name : goal.invariant-loop-name
invariant-loop-name l = l.numbers ≡ numbers_of l.list (take l.name-index l.names)
