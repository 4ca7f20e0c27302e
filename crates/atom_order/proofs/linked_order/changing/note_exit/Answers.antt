-- The transaction is live, or not.
use Rattle.std.proofs.Common.{refl}
use Rattle.atom_order.proofs.Exited.{more_same, none_noted, noted_or}
use Rattle.atom_order.proofs.linked_order.changing.note_exit.Goals as goal

pub returns-in-Some-clause-more : goal.returns-in-Some-clause-more
returns-in-Some-clause-more c =
    (noted_or c.note.result c.args.slots.now.slots c.note.new.self.slots c.args.from c.in-Some.rank c.args.exit c.in-Some.ensures.rank c.in-Some.ensures.alone c.note.ensures.ok c.note.ensures.err).0

pub returns-in-Some-clause-noted : goal.returns-in-Some-clause-noted
returns-in-Some-clause-noted c =
    (noted_or c.note.result c.args.slots.now.slots c.note.new.self.slots c.args.from c.in-Some.rank c.args.exit c.in-Some.ensures.rank c.in-Some.ensures.alone c.note.ensures.ok c.note.ensures.err).1

pub returns-in-None-clause-more : goal.returns-in-None-clause-more
returns-in-None-clause-more c = more_same c.args.slots.now.slots c.args.slots.now.slots refl

pub returns-in-None-clause-noted : goal.returns-in-None-clause-noted
returns-in-None-clause-noted c = none_noted c.args.slots.now.slots c.args.from c.args.exit c.in-None.ensures.rank
