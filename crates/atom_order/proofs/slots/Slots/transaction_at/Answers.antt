use Rattle.std.proofs.Common.{◌≡◌, ◌<◌, length, get_or, sym, subst, arith}
use Rattle.atom_order.specs.Slots.{SlotList, numbers_of}
use Rattle.atom_order.proofs.Gaps.{numbers_len, slot_read}
use Rattle.atom_order.proofs.slots.Slots.transaction_at.Goals as goal

pub returns : goal.returns
returns c =
    let known = subst (λ (s : SlotList). c.args.rank < length (numbers_of s.slots)) (sym c.self.view_is) c.requires in
    let long = numbers_len c.self.inside.slots.items in
    let less : c.args.rank < length c.self.inside.slots.items = omega arith in
    subst (λ (s : SlotList). c.index.result.now.transaction ≡ get_or (numbers_of s.slots) c.args.rank 0) c.self.view_is
    (sym (slot_read c.self.inside.slots.items c.args.rank c.index.result.now c.index.ensures less))
