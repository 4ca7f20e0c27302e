-- One more slot is a gap.
use Rattle.std.proofs.Common.{◌==◌, not, ◌<◌, length, get_or, refl, ap, ◌∙◌, arith}
use Rattle.std.proofs.lemmas.List.{take_all}
use Rattle.std.specs.List.{filter}
use Rattle.atom_order.specs.Reaching.{is_among}
use Rattle.atom_order.specs.Slots.{numbers_of, live_of}
use Rattle.atom_order.proofs.Vacated.{without_more, without_none}
use Rattle.atom_order.proofs.slots.Slots.vacate_all.Goals as goal

pub loop-x-init : goal.loop-x-init
loop-x-init c = record {
  live = without_none (live_of (numbers_of c.args.self.now.slots));
  slots = λ s h _. h;
  next = refl;
}

pub loop-x-preserved : goal.loop-x-preserved
loop-x-preserved c =
    let less : c.loop-x.x-index < length c.args.gone.now = omega arith in
    record {
      live = c.vacate.ensures.live ∙ ap (λ l. filter (λ y. not (y == get_or c.args.gone.now c.loop-x.x-index 0)) l) c.loop-x.invariant.live
          ∙ without_more c.args.gone.now (live_of (numbers_of c.args.self.now.slots)) c.loop-x.x-index less;
      slots = λ s h lives. c.loop-x.invariant.slots s (c.vacate.ensures.slots s h lives) lives;
      next = c.vacate.ensures.next ∙ c.loop-x.invariant.next;
    }

pub returns : goal.returns
returns c = record {
  live = c.loop-x.invariant.live ∙ ap (λ l. filter (λ y. not (is_among y l)) (live_of (numbers_of c.args.self.now.slots))) (take_all c.loop-x.x-index c.args.gone.now (omega arith));
  slots = c.loop-x.invariant.slots;
  next = c.loop-x.invariant.next;
}
