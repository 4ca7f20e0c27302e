-- The parts are those of the only item that the line could be.
use Rattle.std.proofs.lemmas.Result.{IfOk-weaker}
use Rattle.escapes.specs.Readings.{IsReadAs}
use Rattle.trace_text.specs.Items.{IsItem, item_text, touched_text}
use Rattle.trace_text.specs.Parts.{IsItemOf}
use Rattle.trace_text.proofs.Lines.{no_two_spaces, no_word, no_thread, of_parts}
use Rattle.trace_text.proofs.item.item_of.Goals as goal

pub returns-in_default : goal.returns-in_default
returns-in_default c = no_two_spaces c.args.line.now c.in_default.ensures

pub returns-in_default-of : goal.returns-in_default-of
returns-in_default-of c =
    no_word c.args.line.now c.in-Some.word.now c.in-Some.thread.now c.in-Some.text.now
    (record { split = c.in-Some.ensures.0; first_clear = c.in-Some.ensures.1; second_clear = c.in-Some.ensures.2 }) c.in_default-of.ensures

pub returns-in_default-number_of : goal.returns-in_default-number_of
returns-in_default-number_of c =
    no_thread c.args.line.now c.in-Some.word.now c.in-Some.thread.now c.in-Some.text.now
    (record { split = c.in-Some.ensures.0; first_clear = c.in-Some.ensures.1; second_clear = c.in-Some.ensures.2 }) c.in_default-number_of.ensures

pub returns : goal.returns
returns c =
    IfOk-weaker c.touching.result (IsReadAs (IsItemOf c.in-Some-of.word c.in-Some-number_of.thread) touched_text c.in-Some.text.now) (IsReadAs IsItem item_text c.args.line.now)
    (λ o read. of_parts c.args.line.now c.in-Some.word.now c.in-Some.thread.now c.in-Some.text.now c.in-Some-of.word c.in-Some-number_of.thread o
    (record { split = c.in-Some.ensures.0; first_clear = c.in-Some.ensures.1; second_clear = c.in-Some.ensures.2 })
    c.in-Some-of.ensures.1 c.in-Some-number_of.ensures.0 c.in-Some-number_of.ensures.1 read)
    c.touching.ensures
