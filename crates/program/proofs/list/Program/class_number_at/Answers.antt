use Rattle.std.proofs.Common.{sym}
use Rattle.program.proofs.SubclassLaws.{name_of_number, plain_exists}
use Rattle.program.proofs.list.Program.class_number_at.Goals as goal

pub returns-then-is_plain-clause-name : goal.returns-then-is_plain-clause-name
returns-then-is_plain-clause-name c = name_of_number c.args.self.now c.args.name.now c.in_ok-number.number (sym c.in_ok-number.ensures.number)

pub returns-then-is_plain-clause-there : goal.returns-then-is_plain-clause-there
returns-then-is_plain-clause-there c =
    let plain = c.is_plain.ensures c.if-is_plain.true in
    plain_exists c.args.self.now c.args.name.now c.in_ok-number.number plain.0 plain.2 (sym c.in_ok-number.ensures.number) plain.1 plain.3 plain.4
