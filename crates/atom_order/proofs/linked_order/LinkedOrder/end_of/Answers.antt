use Rattle.std.proofs.Common.{◌≡◌, false, MatchOption, subst}
use Rattle.atom_order.specs.LinkedOrder.{Ranked}
use Rattle.atom_order.specs.Reaching.{is_among}
use Rattle.atom_order.specs.Slots.{live_of, IsRank}
use Rattle.atom_order.proofs.Followed.{no_end}
use Rattle.atom_order.proofs.linked_order.LinkedOrder.end_of.Goals as goal

pub returns-in-Some-clause-none : goal.returns-in-Some-clause-none
returns-in-Some-clause-none c =
    no_end c.rank_of.result c.args.exit c.args.from c.args.self.now c.args.left_out.now
    (subst (λ (o : Ranked). MatchOption c.rank_of.result (is_among c.args.exit.to (live_of o.slots) ≡ false) (IsRank o.slots c.args.exit.to)) c.self.view_is c.rank_of.ensures.rank)
