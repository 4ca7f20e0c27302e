-- Gaps are removed.
use Rattle.std.proofs.Common.{◌≡◌, ◌≢◌, ℕ, ◌<◌, ◌==◌, not, List, length, get_or, sym, ap, subst, ◌∙◌, arith}
use Rattle.std.proofs.lemmas.Bool.{eqb-false}
use Rattle.velodrome.specs.Cycles.{IsIn}
use Rattle.atom_order.specs.declared.slots.Slot.{Slot}
use Rattle.atom_order.specs.Slots.{SlotList, numbers_of, live_of, AreRanks}
use Rattle.atom_order.proofs.Gaps.{numbers_len, live_again}
use Rattle.atom_order.proofs.Lists.{at_in}
use Rattle.atom_order.proofs.Members.{filter_in}
use Rattle.atom_order.proofs.Pairs.{Differ, pairs_at}
use Rattle.atom_order.proofs.Recorded.{apart_live, known_live, numbers_tidied, tidied}
use Rattle.atom_order.proofs.slots.Slots.tidy.Goals as goal

pub note_ranks-requires-clause-known : goal.note_ranks-requires-clause-known
note_ranks-requires-clause-known c =
    let slots = c.self.inside.slots.items in
    let live = live_of (numbers_of slots) in
    let now = c.as_slice.result.now in
    let same : numbers_of now ≡ live = ap (λ (l : List Slot). numbers_of l) (c.as_slice.ensures.value ∙ c.remove_gaps.ensures) ∙ numbers_tidied slots in
    λ i less.
    let long = numbers_len now in
    let low : i < length live = subst (λ (l : List ℕ). i < length l) same (omega arith) in
    subst (λ (l : List ℕ). get_or l i 0 < length c.self.inside.ranks.items) (sym same)
    (known_live slots c.self.inside.ranks.items c.self.inside.count c.self.invariant (get_or live i 0) (at_in 0 live i low))

pub note_ranks-requires-clause-apart : goal.note_ranks-requires-clause-apart
note_ranks-requires-clause-apart c =
    let slots = c.self.inside.slots.items in
    let live = live_of (numbers_of slots) in
    let now = c.as_slice.result.now in
    let same : numbers_of now ≡ live = ap (λ (l : List Slot). numbers_of l) (c.as_slice.ensures.value ∙ c.remove_gaps.ensures) ∙ numbers_tidied slots in
    λ i j before less.
    let long = numbers_len now in
    let low : j < length live = subst (λ (l : List ℕ). j < length l) same (omega arith) in
    subst (λ (l : List ℕ). get_or l i 0 ≢ get_or l j 0) (sym same)
    (eqb-false (get_or live i 0) (get_or live j 0) (pairs_at Differ live i j (apart_live slots c.self.inside.ranks.items c.self.inside.count c.self.invariant) before low))

pub invariant_of-self : goal.invariant_of-self
invariant_of-self c =
    let slots = c.self.inside.slots.items in
    let live = live_of (numbers_of slots) in
    let now = c.as_slice.result.now in
    let same : numbers_of now ≡ live = ap (λ (l : List Slot). numbers_of l) (c.as_slice.ensures.value ∙ c.remove_gaps.ensures) ∙ numbers_tidied slots in
    let kept : numbers_of c.remove_gaps.new.slots.items ≡ live = ap (λ (l : List Slot). numbers_of l) c.remove_gaps.ensures ∙ numbers_tidied slots in
    subst (λ (ns : List ℕ). AreRanks ns c.note_ranks.new.ranks.items c.self.inside.count) (sym kept)
    (tidied slots c.self.inside.ranks.items c.self.inside.count c.self.invariant c.note_ranks.new.ranks.items c.note_ranks.ensures.len
    (λ i less.
    let long = numbers_len now in
    let low : i < length (numbers_of now) = subst (λ (l : List ℕ). i < length l) (sym same) less in
    subst (λ (l : List ℕ). get_or c.note_ranks.new.ranks.items (get_or l i 0) 0 ≡ i) same (c.note_ranks.ensures.at i (omega arith))))

pub returns-then-self-len-clause-live : goal.returns-then-self-len-clause-live
returns-then-self-len-clause-live c =
    let slots = c.self.inside.slots.items in
    subst (λ (s : SlotList). live_of (numbers_of c.remove_gaps.new.slots.items) ≡ live_of (numbers_of s.slots)) c.self.view_is
    (ap (λ (l : List Slot). live_of (numbers_of l)) c.remove_gaps.ensures ∙ ap live_of (numbers_tidied slots) ∙ live_again (numbers_of slots))

pub returns-then-self-len-clause-slots : goal.returns-then-self-len-clause-slots
returns-then-self-len-clause-slots c =
    let slots = c.self.inside.slots.items in
    subst (λ (l : SlotList). (s : Slot) → IsIn s c.remove_gaps.new.slots.items → IsIn s l.slots) c.self.view_is
    (λ s h. (filter_in (λ (n : Slot). not (n.transaction == 0)) s slots (subst (λ (l : List Slot). IsIn s l) c.remove_gaps.ensures h)).0)
