-- Whether a link leads from a live transaction depends on the links that aren't passed.
use Rattle.std.proofs.Common.{◌≡◌, sym, get_or, drop, subst, ◌∙◌}
use Rattle.std.specs.List.{list_any}
use Rattle.atom_order.specs.Exits.{links_at}
use Rattle.atom_order.specs.LinkedOrder.{Ranked}
use Rattle.atom_order.specs.Slots.{live_of}
use Rattle.atom_order.proofs.Stored.{any_after, from_live}
use Rattle.atom_order.proofs.linked_order.LinkedOrder.is_linked.Goals as goal

pub returns-clause-linked : goal.returns-clause-linked
returns-clause-linked c =
    let old = c.args.self.now in
    let n = c.pass-passed.result in
    let gone = c.args.gone.now in
    let k = c.args.rank in
    let now : c.is_linked_after.result ≡ list_any (from_live (live_of c.pass-passed.new.self.slots) gone) (drop n (links_at c.pass-passed.new.self.into (get_or c.pass-passed.new.self.slots k 0))) =
    c.is_linked_after.ensures in
    subst (λ (o : Ranked). c.is_linked_after.result ≡ list_any (from_live (live_of o.slots) gone) (drop n (links_at o.into (get_or o.slots k 0)))) c.pass-passed.ensures.same now
    ∙ sym (any_after (links_at old.into (get_or old.slots k 0)) n (live_of old.slots) gone (λ i z less is. (c.pass-passed.ensures.dropped i z less is).1) c.pass-passed.ensures.within)
