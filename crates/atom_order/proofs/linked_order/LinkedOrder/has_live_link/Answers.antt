-- A live transaction has begun.
use Rattle.std.proofs.Common.{◌≡◌, ◌<◌, true, length, sym, subst}
use Rattle.atom_order.specs.LinkedOrder.{Ranked}
use Rattle.atom_order.specs.Reaching.{is_among}
use Rattle.atom_order.specs.Slots.{numbers_of, live_of}
use Rattle.atom_order.proofs.Members.{in_from_among}
use Rattle.atom_order.proofs.linked_order.LinkedOrder.has_live_link.Goals as goal

pub returns-clause-known : goal.returns-clause-known
returns-clause-known c =
    let live = subst (λ (o : Ranked). is_among c.args.transaction (live_of o.slots) ≡ true) (sym c.self.view_is) c.requires in
    subst (λ (o : Ranked). c.args.transaction < length o.into) c.self.view_is
    (c.self.invariant.1.known c.args.transaction (in_from_among c.args.transaction (live_of (numbers_of c.self.inside.slots.slots)) live))
