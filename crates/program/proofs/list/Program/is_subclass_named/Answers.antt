use Rattle.std.proofs.Common.{sym, ap, ◌∙◌}
use Rattle.jvms_program.specs.Resolution.{fits}
use Rattle.program.specs.Tables.{name_at}
use Rattle.program.proofs.SubclassLaws.{fits_own_name, name_of_number}
use Rattle.program.proofs.list.Program.is_subclass_named.Goals as goal

pub returns-in-Some : goal.returns-in-Some
returns-in-Some c =
    let program = c.args.self.now in
    let named = name_of_number program c.args.name.now c.in-Some.above c.in-Some.ensures in c.is_subclass.ensures ∙ ap (fits program (name_at program c.args.class)) named

pub returns-then-same_text : goal.returns-then-same_text
returns-then-same_text c =
    let plain = c.is_plain.ensures c.if-is_plain.true in
    fits_own_name c.args.self.now c.args.class plain.0 plain.2 c.name_at.result.now c.args.name.now c.name_at.ensures (sym c.same_text.ensures ∙ c.if-same_text.true) plain.1 plain.3 plain.4
