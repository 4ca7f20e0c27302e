-- One more slot is after the others.
use Rattle.std.proofs.Common.{◌==◌, not, ◌++◌, ◌∷◌, [], ◌<◌, length, get_or, refl, sym, ap, ◌∙◌, arith}
use Rattle.std.proofs.lemmas.List.{append-nil}
use Rattle.std.specs.List.{filter}
use Rattle.atom_order.specs.Reaching.{is_among}
use Rattle.atom_order.specs.Slots.{numbers_of, live_of}
use Rattle.atom_order.proofs.Vacated.{without_none, still_live, moved_more, moved_all}
use Rattle.atom_order.proofs.slots.Slots.move_all.Goals as goal

pub move_back-requires-clause-live : goal.move_back-requires-clause-live
move_back-requires-clause-live c =
    let less : c.loop-x.x-index < length c.args.moved.now = omega arith in
    ap (is_among (get_or c.args.moved.now c.loop-x.x-index 0)) c.loop-x.invariant.live
    ∙ still_live c.args.moved.now (live_of (numbers_of c.args.self.now.slots)) c.requires.part c.requires.distinct c.loop-x.x-index less

pub loop-x-init : goal.loop-x-init
loop-x-init c = record {
  live = without_none (live_of (numbers_of c.args.self.now.slots)) ∙ sym (append-nil (filter (λ y. not (is_among y [])) (live_of (numbers_of c.args.self.now.slots))));
  slots = λ s h _. h;
  len = omega arith;
  next = refl;
  room = refl;
}

pub loop-x-preserved : goal.loop-x-preserved
loop-x-preserved c =
    let less : c.loop-x.x-index < length c.args.moved.now = omega arith in
    record {
      live = c.move_back.ensures.live
          ∙ ap (λ l. filter (λ y. not (y == get_or c.args.moved.now c.loop-x.x-index 0)) l ++ get_or c.args.moved.now c.loop-x.x-index 0 ∷ []) c.loop-x.invariant.live
          ∙ moved_more c.args.moved.now (live_of (numbers_of c.args.self.now.slots)) c.requires.part c.requires.distinct c.loop-x.x-index less;
      slots = λ s h lives. c.loop-x.invariant.slots s (c.move_back.ensures.slots s h lives) lives;
      len = let one = c.move_back.ensures.len in let two = c.loop-x.invariant.len in omega arith;
      next = c.move_back.ensures.next ∙ c.loop-x.invariant.next;
      room = c.move_back.ensures.room ∙ c.loop-x.invariant.room;
    }

pub returns : goal.returns
returns c = record {
  live = c.loop-x.invariant.live ∙ moved_all c.args.moved.now (live_of (numbers_of c.args.self.now.slots)) c.requires.part c.requires.distinct c.loop-x.x-index (omega arith);
  slots = c.loop-x.invariant.slots;
  next = c.loop-x.invariant.next;
}
