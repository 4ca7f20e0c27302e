use Rattle.std.proofs.Common.{ap, sym, ◌∙◌}
use Rattle.jvms_machine.specs.State.{text_reference}
use Rattle.jvms_machine.specs.Actions.{constant_value}
use Rattle.machine_parts.specs.Constants.{text_value}
use Rattle.machine_parts.proofs.ConstantTexts.{constant_of_text}
use Rattle.machine_parts.proofs.parts.Parts.constant_value.Goals as goal

pub returns-in-String : goal.returns-in-String
returns-in-String c =
    let heap = c.args.self.now.state.heap in
    constant_of_text heap c.args.t.now c.in-String.units c.text_value.result (c.text_value.ensures ∙ ap (λ u. text_value (text_reference heap u)) c.as_slice.ensures)
    ∙ ap (constant_value heap c.args.t.now) (sym c.in-String.is)
