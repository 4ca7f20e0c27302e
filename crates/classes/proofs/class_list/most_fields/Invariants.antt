use Rattle.std.proofs.Common.{◌≤◌, length, take}
use Rattle.std.specs.List.{AllByRecursion}
use Rattle.jvms_program.specs.declared.program.Class.{Class}
use Rattle.classes.proofs.class_list.most_fields.Given as goal

-- the most so far
abbrev pub invariant-loop-class : goal.invariant-loop-class
invariant-loop-class l = AllByRecursion (λ (c : Class). length c.fields ≤ l.most) (take l.class-index l.classes)
