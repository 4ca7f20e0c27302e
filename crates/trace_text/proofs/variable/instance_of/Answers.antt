-- The parts are those of the only field that the text could be.
use Rattle.trace_text.proofs.Variables.{no_object, no_field}
use Rattle.trace_text.proofs.variable.instance_of.Goals as goal

pub returns-in_default-number_of : goal.returns-in_default-number_of
returns-in_default-number_of c =
    no_object c.args.text.now c.in-Some.reference.now c.in-Some.field.now c.in-Some.ensures.exact.0 c.in-Some.ensures.exact.1 c.in_default-number_of.ensures

pub returns-in-None : goal.returns-in-None
returns-in-None c =
    no_field c.args.text.now c.in-Some.reference.now c.in-Some.field.now c.in-Some.ensures.exact.0 c.in-Some.ensures.exact.1 (rw c.in-None.is at c.in_ok-field.ensures)
