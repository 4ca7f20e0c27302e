-- The transaction stays live, or some are dropped.
use Rattle.std.proofs.Common.{Bool, false, List, [], set, refl, sym, subst, ◌∙◌, arith}
use Rattle.atom_order.specs.declared.link.Link.{Link}
use Rattle.atom_order.specs.LinkedOrder.{shape_of}
use Rattle.atom_order.specs.Reaching.{is_among}
use Rattle.atom_order.specs.Shapes.{Shape, into_in, IsUsable, IsClosing}
use Rattle.atom_order.proofs.Changes.{set_false, stays_closing, usable_any}
use Rattle.atom_order.proofs.Lists.{any_in}
use Rattle.atom_order.proofs.Members.{in_from_among}
use Rattle.atom_order.proofs.graph.Graph.close.Goals as goal

pub index_mut-requires : goal.index_mut-requires
index_mut-requires c =
    let known = c.has_live_link.ensures.known in
    let fits = c.self.invariant in
    let long = c.self.inside.is_open.ok.0 in
    omega arith

pub returns-then-has_live_link-clause-ok : goal.returns-then-has_live_link-clause-ok
returns-then-has_live_link-clause-ok c =
    let t = c.args.transaction in
    let o = c.self.inside.order in
    let old = shape_of c.self.inside.dropped.items o c.self.inside.is_open.items in
    let new = shape_of c.self.inside.dropped.items o (set c.self.inside.is_open.items t false) in
    let link = any_in (λ (l : Link). is_among l.from old.live) (into_in old t) (sym c.has_live_link.ensures.linked ∙ c.if-has_live_link.true) in
    subst (λ (s : Shape). IsClosing t s new) c.self.view_is
    (stays_closing old new t (subst IsUsable (sym c.self.view_is) c.requires.usable) link.0 link.1 (in_from_among link.0.from old.live link.2) refl refl
    (λ y. set_false c.self.inside.is_open.items t y) refl)

pub gone-requires-clause-usable : goal.gone-requires-clause-usable
gone-requires-clause-usable c =
    subst (λ (opens : List Bool). IsUsable (shape_of [] c.self.inside.order opens)) (sym c.as_slice.ensures.value)
    (usable_any c.self.inside.order c.self.inside.is_open.items c.self.inside.dropped.items (subst IsUsable (sym c.self.view_is) c.requires.usable))
