-- One more link.
use Rattle.std.proofs.Common.{refl, arith, ◌∙◌}
use Rattle.atom_order.proofs.Exited.{more_same, more_more, noted_more, all_noted}
use Rattle.atom_order.proofs.Sources.{source_read}
use Rattle.atom_order.proofs.linked_order.changing.note_exits.Goals as goal

pub loop-i-init : goal.loop-i-init
loop-i-init c = record {
  more = more_same c.args.slots.now.slots c.args.slots.now.slots refl;
  noted = λ s i h live less is. absurd (omega arith);
  next = refl;
  room = refl;
}

pub loop-i-preserved : goal.loop-i-preserved
loop-i-preserved c = record {
  more = more_more c.args.slots.now.slots c.loop-i.slots.slots c.note_exit.new.slots.slots c.loop-i.invariant.more c.note_exit.ensures.more;
  noted = noted_more c.args.transaction c.args.first c.args.links.now c.loop-i.i _ c.loop-i.slots.slots c.note_exit.new.slots.slots
      (source_read c.args.links.now c.loop-i.i _ c.loop-i-test.true) c.note_exit.ensures.more c.in_ok-note_exit.ensures.noted c.loop-i.invariant.noted;
  next = c.note_exit.ensures.next ∙ c.loop-i.invariant.next;
  room = c.note_exit.ensures.room ∙ c.loop-i.invariant.room;
}

pub returns-in_err-note_exit-clause-more : goal.returns-in_err-note_exit-clause-more
returns-in_err-note_exit-clause-more c = more_more c.args.slots.now.slots c.loop-i.slots.slots c.note_exit.new.slots.slots c.loop-i.invariant.more c.note_exit.ensures.more

pub returns-clause-noted : goal.returns-clause-noted
returns-clause-noted c = all_noted c.args.transaction c.args.first c.args.links.now c.loop-i.i c.loop-i.slots.slots c.loop-i-test.false c.loop-i.invariant.noted
