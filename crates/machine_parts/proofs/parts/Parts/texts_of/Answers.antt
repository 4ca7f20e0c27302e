use Rattle.std.proofs.Common.{◌<◌, List, ap, ◌∙◌, get_or, length, subst, take}
use Rattle.jvms_program.specs.declared.program.Field.{Field}
use Rattle.machine_parts.specs.Constants.{text_to_make, with_text}
use Rattle.machine_parts.proofs.ConstantTexts.{texts_behind}
use Rattle.machine_parts.proofs.parts.Parts.texts_of.Goals as goal

pub loop-i-preserved : goal.loop-i-preserved
loop-i-preserved c =
    let heap = c.args.self.now.state.heap in
    let fields = c.args.class.now.fields in
    let i = c.loop-i.i in
    let field = c.field-item.result in
    let same = c.loop-i.invariant.fields in
    let added = c.in_ok-add_text.ensures ∙ ap (λ k. with_text c.loop-i.texts.items (text_to_make heap (take k fields) field)) c.field_number.ensures.field in
    record {
      fields = same;
      listed = texts_behind heap fields i c.loop-i.texts.items c.add_text.new.texts.items field (subst (λ (l : List Field). i < length l) same c.loop-i-test.true)
          (c.field-item.is ∙ ap (λ l. get_or l i field) same) c.loop-i.invariant.listed added;
    }
