use Rattle.std.proofs.Common.{◌≡◌, is_some, rules, take}
use Rattle.jvms_machine.specs.State.{text_reference}
use Rattle.machine_thread.specs.program.FieldTexts.{is_first_text}
use Rattle.machine_parts.proofs.ConstantTexts.{new_if_first, not_new}
use Rattle.machine_parts.proofs.parts.Parts.is_new_text.Goals as goal

pub returns-then-not-exists : goal.returns-then-not-exists
returns-then-not-exists c =
    let there : c.is_some-exists.result ≡ is_some (text_reference c.args.self.now.state.heap c.in-Some.units.now) = search rules in
    let first : c.is_first_text.result ≡ is_first_text c.args.class.now.fields c.args.n.field c.args.field.now = search rules in
    new_if_first c.args.self.now.state.heap (take c.args.n.field c.args.class.now.fields) c.args.field.now c.in-Some.units.now c.is_some-exists.result c.is_first_text.result c.in-Some.ensures there c.if-not-exists.true first

pub returns-else-not-exists : goal.returns-else-not-exists
returns-else-not-exists c =
    let there : c.is_some-exists.result ≡ is_some (text_reference c.args.self.now.state.heap c.in-Some.units.now) = search rules in
    not_new c.args.self.now.state.heap (take c.args.n.field c.args.class.now.fields) c.args.field.now c.in-Some.units.now c.is_some-exists.result c.in-Some.ensures there c.if-not-exists.false
