-- Slots become gaps, and the links into their transactions are forgotten.
use Rattle.std.proofs.Common.{◌≡◌, ℕ, true, not, List, sym, subst, ◌∙◌}
use Rattle.std.proofs.lemmas.Bool.{not-true}
use Rattle.velodrome.specs.Cycles.{IsIn}
use Rattle.atom_order.specs.Exits.{links_at}
use Rattle.atom_order.specs.LinkedOrder.{Ranked}
use Rattle.atom_order.specs.Reaching.{is_among, LeadForward}
use Rattle.atom_order.specs.Slots.{numbers_of, live_of}
use Rattle.atom_order.proofs.Gaps.{not_zero}
use Rattle.atom_order.proofs.Members.{filter_in}
use Rattle.atom_order.proofs.Stored.{lives, rearranged}
use Rattle.atom_order.proofs.linked_order.LinkedOrder.drop_all.Goals as goal

pub invariant_of-self : goal.invariant_of-self
invariant_of-self c =
    let slots = c.self.inside.slots.slots in
    let into = c.self.inside.into.items in
    let new = c.tidy.new.self.slots in
    let gone = c.args.gone.now in
    let linked = c.self.invariant.1 in
    let forward = subst (λ (o : Ranked). LeadForward (links_at o.into) (live_of o.slots)) (sym c.self.view_is) c.requires in
    let left : (y : ℕ) → IsIn y (lives new) → IsIn y (lives slots) × (not (is_among y gone) ≡ true) = λ y h.
    filter_in (λ x. not (is_among x gone)) y (lives slots) (subst (λ (l : List ℕ). IsIn y l) (c.tidy.ensures.live ∙ c.vacate_all.ensures.live) h) in (
      c.tidy.ensures.next ∙ c.vacate_all.ensures.next ∙ c.self.invariant.0 ∙ sym c.forget.ensures.len,
      rearranged slots new into c.forget.new.into.items (λ s h other. c.vacate_all.ensures.slots s (c.tidy.ensures.slots s h) other) (λ y h. (left y h).0)
          (λ y h. not_zero (numbers_of new) y h) (λ y h. c.forget.ensures.others y (not-true (is_among y gone) (left y h).1)) c.forget.ensures.len
          linked.some linked.known (linked.exits forward) linked.passed,
    )
