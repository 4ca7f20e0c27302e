-- The parts are those of the only member that the text could write.
use Rattle.escapes.proofs.Members.{no_parts, no_class, no_member_name, no_descriptor}
use Rattle.escapes.proofs.key.member_of.Goals as goal

pub returns-in_default : goal.returns-in_default
returns-in_default c x is e =
    no_parts c.args.name_sort c.args.descriptor_sort c.args.text.now x.0 x.1 x.2 c.in_default.ensures is e

pub returns-in_default-2 : goal.returns-in_default-2
returns-in_default-2 c x is e =
    no_class c.args.name_sort c.args.descriptor_sort c.args.text.now c.in-Some.class.now c.in-Some.name.now c.in-Some.descriptor.now
    (record { split = c.in-Some.ensures.0; first_clear = c.in-Some.ensures.1; second_clear = c.in-Some.ensures.2 })
    (rw c.in_default-2.is at c.in_ok-class.ensures) x.0 x.1 x.2 is e

pub returns-in_default-3 : goal.returns-in_default-3
returns-in_default-3 c x is e =
    no_member_name c.args.name_sort c.args.descriptor_sort c.args.text.now c.in-Some.class.now c.in-Some.name.now c.in-Some.descriptor.now
    (record { split = c.in-Some.ensures.0; first_clear = c.in-Some.ensures.1; second_clear = c.in-Some.ensures.2 })
    (rw c.in_default-3.is at c.in_ok-name.ensures) x.0 x.1 x.2 is e

pub returns-in_default-4 : goal.returns-in_default-4
returns-in_default-4 c x is e =
    no_descriptor c.args.name_sort c.args.descriptor_sort c.args.text.now c.in-Some.class.now c.in-Some.name.now c.in-Some.descriptor.now
    (record { split = c.in-Some.ensures.0; first_clear = c.in-Some.ensures.1; second_clear = c.in-Some.ensures.2 })
    (rw c.in_default-4.is at c.in_ok-descriptor.ensures) x.0 x.1 x.2 is e
