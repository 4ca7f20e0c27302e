use Rattle.std.proofs.Common.{rules, ◌≡◌, ◌<◌, None, length, ap, sym, ◌∙◌, arith}
use Rattle.jvms_program.specs.Program.{class_named}
use Rattle.jvms_program.specs.Resolution.{first_in}
use Rattle.classes.specs.Places.{match_with_number}
use Rattle.classes.proofs.HierarchyLaws.{missing, number_within}
use Rattle.classes.proofs.WalkLaws.{above_found}
use Rattle.classes.proofs.ancestors.first_in_ancestry.Goals as goal

pub returns-in_default : goal.returns-in_default
returns-in_default g c =
    let absent : None ≡ class_named c.args.program.now c.args.name.now = search rules in
    sym (ap (first_in (match_with_number c.args.program.now (g.L.Look.gives c.args.look.now))) (missing c.args.program.now (length c.args.program.now) c.args.name.now (sym absent)))

pub returns-in-Some-look : goal.returns-in-Some-look
returns-in-Some-look g c =
    let program = c.args.program.now in
    let gives = g.L.Look.gives c.args.look.now in
    let within : c.in-Some.number < length program = number_within program c.args.name.now c.in-Some.number (sym c.in-Some.ensures.number) in
    above_found (match_with_number program gives) (length program) program c.args.name.now c.in-Some.class.now c.in-Some-look.found (omega arith) c.in-Some.ensures.class
    (sym c.in-Some-look.is ∙ c.look.ensures ∙ ap (λ n. gives n c.in-Some.class.now) c.in-Some.ensures.place)
