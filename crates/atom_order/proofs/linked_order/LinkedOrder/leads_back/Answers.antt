-- The rest of the order from the transaction on is what has its rank or a higher one.
use Rattle.std.proofs.Common.{◌≡◌, ℕ, false, List, sym, ap, subst, ◌∙◌}
use Rattle.std.proofs.lemmas.Bool.{both_ways}
use Rattle.std.specs.List.{list_any}
use Rattle.atom_order.specs.declared.link.Link.{Link}
use Rattle.atom_order.specs.LinkedOrder.{Ranked}
use Rattle.atom_order.specs.Reaching.{is_among}
use Rattle.atom_order.specs.Slots.{live_of, numbers_of}
use Rattle.atom_order.specs.Sweeps.{from_on}
use Rattle.atom_order.proofs.Ordered.{from_on_rank}
use Rattle.atom_order.proofs.linked_order.LinkedOrder.leads_back.Goals as goal

pub returns-in-Some : goal.returns-in-Some
returns-in-Some c =
    let t = c.args.transaction in
    let links = c.args.links.now in
    let numbers = numbers_of c.self.inside.slots.slots in
    subst (λ (o : Ranked). c.leads_from.result ≡ list_any (λ (l : Link). is_among l.from (from_on t (live_of o.slots))) links) c.self.view_is
    (c.leads_from.ensures ∙ ap (λ (xs : List ℕ). list_any (λ (l : Link). is_among l.from xs) links) (sym (from_on_rank numbers t c.in-Some.rank c.in-Some.ensures.rank c.in-Some.ensures.alone)))

pub returns-in-None : goal.returns-in-None
returns-in-None c =
    absurd (both_ways (is_among c.args.transaction (live_of c.args.self.now.slots))
    (subst (λ (o : Ranked). is_among c.args.transaction (live_of o.slots) ≡ false) c.self.view_is c.in-None.ensures.rank) c.requires)
