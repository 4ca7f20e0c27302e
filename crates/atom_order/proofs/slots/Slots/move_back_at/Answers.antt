-- The slot is after the others, and there is one more gap.
use Rattle.std.proofs.Common.{◌≡◌, ◌≢◌, ℕ, ◌<◌, ◌++◌, ◌∷◌, [], ◌==◌, not, List, length, set, get_or, sym, ap, subst, subst₂, ◌∙◌, arith}
use Rattle.std.proofs.lemmas.Grind.{common_steps}
use Rattle.std.specs.List.{filter}
use Rattle.velodrome.specs.Cycles.{IsIn}
use Rattle.atom_order.specs.declared.slots.Slot.{Slot}
use Rattle.atom_order.specs.Slots.{SlotList, numbers_of, live_of, IsRank, AreRanks}
use Rattle.atom_order.proofs.Gaps.{live_append, live_one, live_without, numbers_len, numbers_push, numbers_set, rank_read}
use Rattle.atom_order.proofs.Recorded.{moved_back, one_rank}
use Rattle.atom_order.proofs.Vacated.{back_old}
use Rattle.atom_order.proofs.slots.Slots.move_back_at.Goals as goal

-- The transactions of the slots afterwards.
numbers_after : (slots now : List Slot) (k x : ℕ) (v r : Slot) → now ≡ set slots k v ++ r ∷ [] → v.transaction ≡ 0 → r.transaction ≡ x → numbers_of now ≡ set (numbers_of slots) k 0 ++ x ∷ []
numbers_after slots now k x v r is gap same =
    ap (λ (l : List Slot). numbers_of l) is ∙ numbers_push (set slots k v) r ∙ ap (λ y. numbers_of (set slots k v) ++ y ∷ []) same
    ∙ ap (λ l. l ++ x ∷ []) (numbers_set slots k v ∙ ap (λ y. set (numbers_of slots) k y) gap)

pub invariant_of-self : goal.invariant_of-self
invariant_of-self c =
    let slots = c.self.inside.slots.items in
    let numbers = numbers_of slots in
    let slot = c.replace-slot.result in
    let x = c.requires.live.0 in
    let rank : IsRank numbers x c.args.rank = subst (λ (s : SlotList). IsRank (numbers_of s.slots) x c.args.rank) (sym c.self.view_is) c.requires.live.1 in
    let is : slot.transaction ≡ x = ap (λ (s : Slot). s.transaction) c.replace-slot.ensures.value ∙ rank_read slots x c.args.rank c.index_mut.result.now c.index_mut.ensures.value rank in
    let gap : c.replace-slot.new.dest.transaction ≡ 0 = ap (λ (s : Slot). s.transaction) (c.replace-slot.ensures.after ∙ c.new-gap.ensures) in
    let long : length numbers ≡ c.len.result = numbers_len slots ∙ grind (arith, common_steps) in
    subst₂ (λ (ns : List ℕ) (rs : List ℕ). AreRanks ns rs c.self.inside.count)
    (sym (numbers_after slots c.push_reserved.new.self.items c.args.rank x c.replace-slot.new.dest slot c.push_reserved.ensures.items gap is))
    (ap (λ n. set c.self.inside.ranks.items x n) long ∙ ap (λ y. set c.self.inside.ranks.items y c.len.result) (sym is))
    (moved_back numbers c.self.inside.ranks.items c.self.inside.count c.self.invariant x c.args.rank rank)

pub returns-clause-live : goal.returns-clause-live
returns-clause-live c =
    let slots = c.self.inside.slots.items in
    let numbers = numbers_of slots in
    let k = c.args.rank in
    let now = c.push_reserved.new.self.items in
    subst (λ (s : SlotList). (x : ℕ) → IsRank (numbers_of s.slots) x k → live_of (numbers_of now) ≡ filter (λ y. not (y == x)) (live_of (numbers_of s.slots)) ++ x ∷ []) c.self.view_is
    (λ x r.
    let is : c.replace-slot.result.transaction ≡ x = ap (λ (s : Slot). s.transaction) c.replace-slot.ensures.value ∙ rank_read slots x k c.index_mut.result.now c.index_mut.ensures.value r in
    let gap : c.replace-slot.new.dest.transaction ≡ 0 = ap (λ (s : Slot). s.transaction) (c.replace-slot.ensures.after ∙ c.new-gap.ensures) in
    ap live_of (numbers_after slots now k x c.replace-slot.new.dest c.replace-slot.result c.push_reserved.ensures.items gap is)
    ∙ live_append (set numbers k 0) (x ∷ [])
    ∙ ap (λ l. live_of (set numbers k 0) ++ l) (live_one x [] r.lives)
    ∙ ap (λ l. l ++ x ∷ []) (live_without numbers x k (one_rank numbers c.self.inside.ranks.items c.self.inside.count c.self.invariant) r))

pub returns-clause-slots : goal.returns-clause-slots
returns-clause-slots c =
    let slots = c.self.inside.slots.items in
    let gap : c.replace-slot.new.dest.transaction ≡ 0 = ap (λ (s : Slot). s.transaction) (c.replace-slot.ensures.after ∙ c.new-gap.ensures) in
    let within = subst (λ (s : SlotList). c.args.rank < length (numbers_of s.slots)) (sym c.self.view_is) c.requires.live.1.within in
    let long = numbers_len slots in
    let less : c.args.rank < length slots = omega arith in
    let old = c.replace-slot.ensures.value ∙ c.index_mut.ensures.value ∙ ap (λ (d : Slot). get_or slots c.args.rank d) (sym c.replace-slot.ensures.value) in
    subst (λ (l : SlotList). (s : Slot) → IsIn s c.push_reserved.new.self.items → s.transaction ≢ 0 → IsIn s l.slots) c.self.view_is
    (λ s h lives. back_old slots c.args.rank c.replace-slot.new.dest c.replace-slot.result s gap less old (subst (λ (l : List Slot). IsIn s l) c.push_reserved.ensures.items h) lives)
