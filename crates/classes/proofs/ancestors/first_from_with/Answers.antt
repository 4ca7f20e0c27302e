use Rattle.std.proofs.Common.{rules, ◌≡◌, None, ap, sym, ◌∙◌}
use Rattle.jvms_program.specs.Program.{class_named, class_number}
use Rattle.classes.specs.Marks.{is_marked}
use Rattle.classes.specs.Places.{match_with_number}
use Rattle.classes.proofs.AlongLaws.{interfaces_reached, none_from, one_passes}
use Rattle.classes.proofs.ancestors.first_from_with.Goals as goal

pub returns-in_default : goal.returns-in_default
returns-in_default g c =
    let missing : None ≡ class_named c.args.program.now c.name_of.result.now = search rules in
    none_from c.args.program.now (match_with_number c.args.program.now (g.L.Look.gives c.args.look.now)) c.args.start (ap (class_named c.args.program.now) (sym c.name_of.ensures) ∙ sym missing)

pub first_of_names-requires-clause-reached : goal.first_of_names-requires-clause-reached
first_of_names-requires-clause-reached g c =
    interfaces_reached c.args.program.now c.mark_for.new.reached c.mark_for.ensures.closed c.name_of.result.now c.in-Some.number c.in-Some.class.now
    (one_passes (is_marked c.mark_for.new.reached) (class_number c.args.program.now c.name_of.result.now) c.in-Some.number c.in-Some.ensures.number c.mark_for.ensures.itself)
    c.in-Some.ensures.number c.in-Some.ensures.class c.as_slice.result.now c.as_slice.ensures
