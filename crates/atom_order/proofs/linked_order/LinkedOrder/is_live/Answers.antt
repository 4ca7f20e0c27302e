use Rattle.std.proofs.Common.{◌≡◌, true, sym, subst}
use Rattle.atom_order.specs.LinkedOrder.{Ranked}
use Rattle.atom_order.specs.Reaching.{is_among}
use Rattle.atom_order.specs.Slots.{live_of, numbers_of}
use Rattle.atom_order.proofs.Gaps.{rank_in}
use Rattle.atom_order.proofs.Members.{among_from_in}
use Rattle.atom_order.proofs.linked_order.LinkedOrder.is_live.Goals as goal

pub returns-in-Some : goal.returns-in-Some
returns-in-Some c =
    let numbers = numbers_of c.self.inside.slots.slots in
    subst (λ (o : Ranked). true ≡ is_among c.args.transaction (live_of o.slots)) c.self.view_is
    (sym (among_from_in c.args.transaction (live_of numbers) (rank_in numbers c.args.transaction c.in-Some.field-0 c.in-Some.ensures.rank)))
