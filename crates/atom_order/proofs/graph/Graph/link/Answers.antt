-- All links lead forward, or one closes a cycle, or what the transaction reaches is moved after the others.
use Rattle.std.proofs.Common.{◌≡◌, true, refl, sym, subst, ◌∙◌}
use Rattle.atom_order.specs.declared.link.Link.{Link}
use Rattle.atom_order.specs.LinkedOrder.{shape_of}
use Rattle.atom_order.specs.Reaching.{is_among, LeadForward}
use Rattle.atom_order.specs.Shapes.{Shape, into_in, ClosesSome, IsLinking, IsUsable}
use Rattle.atom_order.specs.Sweeps.{from_on}
use Rattle.atom_order.proofs.Changes.{cycle_or, links_forward}
use Rattle.atom_order.proofs.Lists.{none_in}
use Rattle.atom_order.proofs.Members.{in_from_among}
use Rattle.atom_order.proofs.graph.Graph.link.Goals as goal

pub returns-then-not-leads_back-clause-ok : goal.returns-then-not-leads_back-clause-ok
returns-then-not-leads_back-clause-ok c =
    let t = c.args.transaction in
    let links = c.args.links.now in
    let old = shape_of c.self.inside.dropped.items c.self.inside.order c.self.inside.is_open.items in
    let new = shape_of c.self.inside.dropped.items c.add_links.new.self c.self.inside.is_open.items in
    let there = in_from_among t old.live (subst (λ (s : Shape). is_among t s.live ≡ true) (sym c.self.view_is) c.requires.live) in
    let none = none_in (λ (l : Link). is_among l.from (from_on t old.live)) links (sym c.leads_back.ensures ∙ c.if-not-leads_back.true) in
    let added = c.in_ok-add_links.ensures.into in
    subst (λ (s : Shape). IsLinking t links s new) c.self.view_is
    (links_forward old new t links (subst IsUsable (sym c.self.view_is) c.requires.usable) there none refl c.add_links.ensures.live refl added.into added.len)

pub reached-requires-clause-forward : goal.reached-requires-clause-forward
reached-requires-clause-forward c = subst (λ (s : Shape). LeadForward (into_in s) s.live) (sym c.self.view_is) c.requires.usable.leads

pub add_and_move-requires-clause-forward : goal.add_and_move-requires-clause-forward
add_and_move-requires-clause-forward c = subst (λ (s : Shape). LeadForward (into_in s) s.live) (sym c.self.view_is) c.requires.usable.leads

pub returns-in-None-clause-ok : goal.returns-in-None-clause-ok
returns-in-None-clause-ok c =
    let some = rw c.in-None.is at c.in_ok-reached.ensures in
    cycle_or c.closing.result c.args.transaction c.args.links.now c.args.self.now _ _ c.closing.ensures
    (subst (λ (s : Shape). ClosesSome c.args.transaction c.args.links.now s) c.self.view_is some) refl
