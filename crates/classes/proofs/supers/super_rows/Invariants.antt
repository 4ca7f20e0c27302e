use Rattle.std.proofs.Common.{◌≡◌, take, map}
use Rattle.classes.specs.Hierarchy.{super_numbers}
use Rattle.classes.proofs.supers.super_rows.Given as goal

-- the classes so far
abbrev pub invariant-loop-class : goal.invariant-loop-class
invariant-loop-class l = l.rows.items ≡ map (super_numbers l.list) (take l.class-index l.class-items)
