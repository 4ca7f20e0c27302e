use Rattle.std.proofs.Common.{ap, ◌∙◌}
use Rattle.jvms_program.specs.Resolution.{fits}
use Rattle.program.specs.Tables.{name_at}
use Rattle.program.proofs.SubclassLaws.{name_of_number}
use Rattle.program.proofs.list.Program.fits.Goals as goal

pub returns-in-Some-Some : goal.returns-in-Some-Some
returns-in-Some-Some c =
    let program = c.args.self.now in
    let low = name_of_number program c.args.a.now c.in-Some-Some.class c.in-Some-Some.ensures in
    let high = name_of_number program c.args.b.now c.in-Some-Some.above c.in-Some-Some.ensures' in
    c.is_subclass.ensures ∙ ap (λ n. fits program n (name_at program c.in-Some-Some.above)) low ∙ ap (fits program c.args.a.now) high
