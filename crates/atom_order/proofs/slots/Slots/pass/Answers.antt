-- The transactions of the slots are unchanged.
use Rattle.std.proofs.Common.{◌<◌, List, ℕ, length, refl, sym, subst, arith}
use Rattle.atom_order.specs.Slots.{SlotList, numbers_of, AreRanks}
use Rattle.atom_order.proofs.Gaps.{numbers_kept, numbers_len}
use Rattle.atom_order.proofs.slots.Slots.pass.Goals as goal

pub invariant_of-self : goal.invariant_of-self
invariant_of-self c =
    let known = subst (λ (s : SlotList). c.args.rank < length (numbers_of s.slots)) (sym c.self.view_is) c.requires in
    let long = numbers_len c.self.inside.slots.items in
    let less : c.args.rank < length c.self.inside.slots.items = omega arith in
    subst (λ (ns : List ℕ). AreRanks ns c.self.inside.ranks.items c.self.inside.count)
    (sym (numbers_kept c.self.inside.slots.items c.args.rank c.index_mut-slot.result.now (record c.index_mut-slot.result.now { passed = c.args.passed }) c.index_mut-slot.ensures.value less refl))
    c.self.invariant
