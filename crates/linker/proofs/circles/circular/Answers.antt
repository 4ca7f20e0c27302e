use Rattle.std.proofs.Common.{List, ap, sym, ◌∙◌, arith}
use Rattle.jvms_program.specs.declared.program.Class.{Class}
use Rattle.linker.specs.Linking.{is_circular}
use Rattle.linker.proofs.FirstPlaces.{first_place, no_place}
use Rattle.linker.proofs.circles.circular.Goals as goal

pub returns-then-branch : goal.returns-then-branch
returns-then-branch c =
    first_place (is_circular c.args.program.now) c.args.classes.now c.loop-place.place c.index-classes-place.result c.loop-place-test.true c.index-classes-place.is c.loop-place.invariant
    (ap (λ (program : List Class). is_circular program c.index-classes-place.result) (sym c.in_ok-supers.ensures) ∙ sym c.in_ok-is_circular.ensures ∙ c.if-branch.true)

pub returns : goal.returns
returns c = no_place (is_circular c.args.program.now) c.args.classes.now c.loop-place.place (omega arith) c.loop-place.invariant
