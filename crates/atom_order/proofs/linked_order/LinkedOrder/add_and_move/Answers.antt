-- The links are added, and slots move after the others.
use Rattle.std.proofs.Common.{◌≡◌, ◌==◌, ℕ, true, List, refl, sym, ap, subst, ◌∙◌}
use Rattle.std.specs.List.{IsDistinct}
use Rattle.velodrome.specs.Cycles.{IsIn}
use Rattle.atom_order.specs.declared.slots.Slot.{Slot}
use Rattle.atom_order.specs.Exits.{links_at, AreLinked}
use Rattle.atom_order.specs.Keeping.{sides}
use Rattle.atom_order.specs.LinkedOrder.{Ranked}
use Rattle.atom_order.specs.Reaching.{is_among, LeadForward}
use Rattle.atom_order.specs.Slots.{numbers_of, live_of}
use Rattle.atom_order.proofs.Gaps.{not_zero}
use Rattle.atom_order.proofs.Members.{in_from_among, sides_in}
use Rattle.atom_order.proofs.Stored.{added_linked, added_or, exits_added, lives, rearranged}
use Rattle.atom_order.proofs.linked_order.LinkedOrder.add_and_move.Goals as goal

pub add-requires : goal.add-requires
add-requires c =
    let live = subst (λ (o : Ranked). is_among c.args.transaction (live_of o.slots) ≡ true) (sym c.self.view_is) c.requires.live in
    c.self.invariant.1.known c.args.transaction (in_from_among c.args.transaction (live_of (numbers_of c.self.inside.slots.slots)) live)

pub invariant_of-self-in_err-add : goal.invariant_of-self-in_err-add
invariant_of-self-in_err-add c =
    let before = subst (λ (s : List Slot). AreLinked s c.self.inside.into.items) (sym c.reserve.ensures.slots) c.self.invariant.1 in
    let both = added_or c.add.result c.reserve.new.self.slots c.add.new.slots.slots c.self.inside.into.items c.add.new.into.items c.args.transaction c.args.links.now
    c.add.ensures.more c.add.ensures.noted c.add.ensures.added c.add.ensures.err before in
    (c.add.ensures.next ∙ c.reserve.ensures.next ∙ c.self.invariant.0 ∙ sym both.0, both.1)

pub move_all-requires-clause-distinct : goal.move_all-requires-clause-distinct
move_all-requires-clause-distinct c =
    subst (λ (xs : List ℕ). IsDistinct (λ x y. x == y) (live_of xs)) (sym (c.add.ensures.more.numbers ∙ ap (λ (s : List Slot). numbers_of s) c.reserve.ensures.slots))
    (subst (λ (o : Ranked). IsDistinct (λ x y. x == y) (live_of o.slots)) (sym c.self.view_is) c.requires.distinct)

pub invariant_of-self-2 : goal.invariant_of-self-2
invariant_of-self-2 c =
    let t = c.args.transaction in
    let links = c.args.links.now in
    let moved = c.args.moved.now in
    let slots = c.reserve.new.self.slots in
    let now = c.add.new.slots.slots in
    let new = c.tidy.new.self.slots in
    let into = c.self.inside.into.items in
    let onto = c.add.new.into.items in
    let before = subst (λ (s : List Slot). AreLinked s into) (sym c.reserve.ensures.slots) c.self.invariant.1 in
    let forward = subst (λ (s : List Slot). LeadForward (links_at into) (lives s)) (sym c.reserve.ensures.slots)
    (subst (λ (o : Ranked). LeadForward (links_at o.into) (live_of o.slots)) (sym c.self.view_is) c.requires.forward) in
    let more = c.add.ensures.more in
    let noted = c.in_ok-add.ensures.noted in
    let added = c.in_ok-add.ensures.added in
    let linked = added_linked slots now more t links into onto noted added before in (
      c.tidy.ensures.next ∙ c.move_all.ensures.next ∙ c.add.ensures.next ∙ c.reserve.ensures.next ∙ c.self.invariant.0 ∙ sym added.len,
      rearranged now new onto onto (λ s h other. c.move_all.ensures.slots s (c.tidy.ensures.slots s h) other)
          (λ y h. sides_in (λ x. is_among x moved) y (lives now) (subst (λ (l : List ℕ). IsIn y l) (c.tidy.ensures.live ∙ c.move_all.ensures.live) h))
          (λ y h. not_zero (numbers_of new) y h) (λ y h. refl) refl linked.some linked.known
          (exits_added slots now more t links into onto noted added (before.exits forward)) linked.passed,
    )

pub returns-clause-live : goal.returns-clause-live
returns-clause-live c =
    let P = λ (x : ℕ). is_among x c.args.moved.now in
    c.tidy.ensures.live ∙ c.move_all.ensures.live
    ∙ ap (λ (xs : List ℕ). sides P (live_of xs)) (c.add.ensures.more.numbers ∙ ap (λ (s : List Slot). numbers_of s) c.reserve.ensures.slots)
    ∙ ap (λ (o : Ranked). sides P (live_of o.slots)) c.self.view_is
