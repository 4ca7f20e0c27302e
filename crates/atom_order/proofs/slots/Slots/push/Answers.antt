-- One more slot.
use Rattle.std.proofs.Common.{◌≡◌, ℕ, ◌+◌, ◌++◌, ◌∷◌, [], ◌==◌, not, List, length, sym, ap, subst₂, ◌∙◌, arith}
use Rattle.std.proofs.lemmas.Grind.{common_steps}
use Rattle.atom_order.specs.declared.slots.Slot.{Slot}
use Rattle.atom_order.specs.Slots.{numbers_of, AreRanks}
use Rattle.atom_order.proofs.Gaps.{numbers_len, numbers_push}
use Rattle.atom_order.proofs.Lists.{length-filter}
use Rattle.atom_order.proofs.Recorded.{pushed}
use Rattle.atom_order.proofs.slots.Slots.push.Goals as goal

pub overflow_add-self : goal.overflow_add-self
overflow_add-self c =
    let slots = c.self.inside.slots.items in
    let counted = c.self.invariant.counted in
    let few = length-filter (λ x. not (x == 0)) (numbers_of slots) in
    let long = numbers_len slots in
    let ok = c.self.inside.slots.ok.0 in
    let more = c.len.type_inv in
    grind (arith, common_steps)

pub invariant_of-self-2 : goal.invariant_of-self-2
invariant_of-self-2 c =
    let slots = c.self.inside.slots.items in
    let ranks = c.self.inside.ranks.items in
    let next : c.len-transaction.result ≡ length ranks = grind (arith, common_steps) in
    let last : c.len.result ≡ length (numbers_of slots) = grind (arith, common_steps, numbers_len slots) in
    subst₂ (λ (ns : List ℕ) (rs : List ℕ). AreRanks ns rs (c.self.inside.count + 1))
    (sym (ap (λ (l : List Slot). numbers_of l) c.push_reserved-2.ensures.items ∙ numbers_push c.reserve.new.self.items c.new.result
    ∙ ap (λ (l : List Slot). numbers_of l ++ c.new.result.transaction ∷ []) c.reserve.ensures.items
    ∙ ap (λ y. numbers_of slots ++ y ∷ []) (ap (λ (s : Slot). s.transaction) c.new.ensures ∙ next)))
    (sym (c.push_reserved.ensures.items ∙ ap (λ (l : List ℕ). l ++ c.len.result ∷ []) c.reserve-2.ensures.items ∙ ap (λ n. ranks ++ n ∷ []) last))
    (pushed (numbers_of slots) ranks c.self.inside.count c.self.invariant)
