use Rattle.std.proofs.Common.{take}
use Rattle.program.specs.FieldTexts.{IsFirstText}
use Rattle.program.proofs.FirstTextLaws.{texts_next}
use Rattle.program.proofs.TableLaws.{one_told}
use Rattle.program.proofs.tables.first_texts.first_texts_of_class.Goals as goal

pub loop-field-preserved : goal.loop-field-preserved
loop-field-preserved c =
    let fields = c.as_slice-fields.result.now in
    let i = c.loop-field.field-index in
    let field = c.field-item.result in
    let so_far = c.loop-field.invariant in (
      one_told (IsFirstText fields) fields c.loop-field.firsts.items c.push.new.self.items i field c.in_ok-add_text.field-0 so_far.0 c.in_ok-push.ensures.items c.loop-field-test.true c.field-item.is
          (c.in_ok-add_text.ensures.first (take i fields) so_far.1),
      texts_next fields i field c.add_text.new.texts c.loop-field-test.true c.field-item.is (c.in_ok-add_text.ensures.texts (take i fields) so_far.1),
    )
