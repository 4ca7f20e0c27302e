use Rattle.std.proofs.Common.{◌≡◌, take, map}
use Rattle.jvms_program.specs.BuiltIn.{is_built_in}
use Rattle.classes.proofs.class_list.built_in_marks.Given as goal

abbrev pub invariant-loop-class : goal.invariant-loop-class
invariant-loop-class l = l.marks.items ≡ map (λ c. is_built_in c.name) (take l.class-index l.classes)
