-- The links are added, or only exits are noted.
use Rattle.std.proofs.Common.{◌≡◌, true, sym, subst, ◌∙◌}
use Rattle.atom_order.specs.LinkedOrder.{Ranked}
use Rattle.atom_order.specs.Reaching.{is_among}
use Rattle.atom_order.specs.Slots.{numbers_of, live_of}
use Rattle.atom_order.proofs.Members.{in_from_among}
use Rattle.atom_order.proofs.Stored.{added_or}
use Rattle.atom_order.proofs.linked_order.LinkedOrder.add_links.Goals as goal

pub add-requires : goal.add-requires
add-requires c =
    let live = subst (λ (o : Ranked). is_among c.args.transaction (live_of o.slots) ≡ true) (sym c.self.view_is) c.requires in
    c.self.invariant.1.known c.args.transaction (in_from_among c.args.transaction (live_of (numbers_of c.self.inside.slots.slots)) live)

pub invariant_of-self : goal.invariant_of-self
invariant_of-self c =
    let both = added_or c.add.result c.self.inside.slots.slots c.add.new.slots.slots c.self.inside.into.items c.add.new.into.items c.args.transaction c.args.links.now
    c.add.ensures.more c.add.ensures.noted c.add.ensures.added c.add.ensures.err c.self.invariant.1 in
    (c.add.ensures.next ∙ c.self.invariant.0 ∙ sym both.0, both.1)
