-- One more gap.
use Rattle.std.proofs.Common.{◌≡◌, ◌≢◌, ℕ, ◌-◌, ◌==◌, not, List, set, sym, ap, subst, ◌∙◌, arith}
use Rattle.std.specs.List.{filter}
use Rattle.velodrome.specs.Cycles.{IsIn}
use Rattle.atom_order.specs.declared.slots.Slot.{Slot}
use Rattle.atom_order.specs.Slots.{SlotList, numbers_of, live_of, IsRank, AreRanks}
use Rattle.atom_order.proofs.Gaps.{live_without, numbers_set}
use Rattle.atom_order.proofs.Recorded.{one_rank, some_live, vacated}
use Rattle.atom_order.proofs.Vacated.{set_old}
use Rattle.atom_order.proofs.slots.Slots.vacate_at.Goals as goal

pub overflow_sub-self : goal.overflow_sub-self
overflow_sub-self c =
    let x = c.requires.0 in
    let rank = subst (λ (s : SlotList). IsRank (numbers_of s.slots) x c.args.rank) (sym c.self.view_is) c.requires.1 in
    let some = some_live (numbers_of c.self.inside.slots.items) c.self.inside.ranks.items c.self.inside.count c.self.invariant x c.args.rank rank in
    omega arith

pub invariant_of-self : goal.invariant_of-self
invariant_of-self c =
    let x = c.requires.0 in
    let rank = subst (λ (s : SlotList). IsRank (numbers_of s.slots) x c.args.rank) (sym c.self.view_is) c.requires.1 in
    subst (λ (ns : List ℕ). AreRanks ns c.self.inside.ranks.items (c.self.inside.count - 1))
    (sym (numbers_set c.self.inside.slots.items c.args.rank c.new.result ∙ ap (λ (s : Slot). set (numbers_of c.self.inside.slots.items) c.args.rank s.transaction) c.new.ensures))
    (vacated (numbers_of c.self.inside.slots.items) c.self.inside.ranks.items c.self.inside.count c.self.invariant x c.args.rank rank)

pub returns-clause-live : goal.returns-clause-live
returns-clause-live c =
    let slots = c.self.inside.slots.items in
    subst (λ (s : SlotList). (x : ℕ) → IsRank (numbers_of s.slots) x c.args.rank → live_of (numbers_of (set slots c.args.rank c.new.result)) ≡ filter (λ y. not (y == x)) (live_of (numbers_of s.slots)))
    c.self.view_is
    (λ x r.
    ap live_of (numbers_set slots c.args.rank c.new.result ∙ ap (λ (s : Slot). set (numbers_of slots) c.args.rank s.transaction) c.new.ensures)
    ∙ live_without (numbers_of slots) x c.args.rank (one_rank (numbers_of slots) c.self.inside.ranks.items c.self.inside.count c.self.invariant) r)

pub returns-clause-slots : goal.returns-clause-slots
returns-clause-slots c =
    let slots = c.self.inside.slots.items in
    subst (λ (l : SlotList). (s : Slot) → IsIn s (set slots c.args.rank c.new.result) → s.transaction ≢ 0 → IsIn s l.slots) c.self.view_is
    (λ s h lives. set_old slots c.args.rank c.new.result s (ap (λ (n : Slot). n.transaction) c.new.ensures) h lives)
