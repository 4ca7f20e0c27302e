use Rattle.std.proofs.Common.{◌≡◌, Some, sym, ◌∙◌}
use Rattle.jvms_program.specs.Program.{class_number}
use Rattle.classes.proofs.PlaceLaws.{named_at, place_is}
use Rattle.classes.proofs.lookup.numbered.Goals as goal

pub returns-clause-class : goal.returns-clause-class
returns-clause-class c =
    c.in_ok-class.ensures ∙ named_at c.args.program.now c.args.name.now c.in_ok-number.number (sym c.in_ok-number.ensures)

pub returns-clause-place : goal.returns-clause-place
returns-clause-place c =
    let number : class_number c.args.program.now c.args.name.now ≡ Some c.in_ok-number.number = sym c.in_ok-number.ensures in
    place_is c.args.program.now c.args.name.now c.in_ok-number.number c.in_ok-class.class.now number
    (sym (named_at c.args.program.now c.args.name.now c.in_ok-number.number number) ∙ sym c.in_ok-class.ensures)
