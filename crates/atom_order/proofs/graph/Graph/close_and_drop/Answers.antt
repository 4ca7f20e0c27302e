-- Some transactions are dropped.
use Rattle.std.proofs.Common.{◌<◌, false, length, set, sym, subst, arith}
use Rattle.atom_order.specs.LinkedOrder.{shape_of}
use Rattle.atom_order.specs.Reaching.{LeadForward}
use Rattle.atom_order.specs.Shapes.{Shape, into_in, order_of, IsClosing}
use Rattle.atom_order.specs.Sweeps.{AreGone}
use Rattle.atom_order.proofs.Changes.{closes, set_false}
use Rattle.atom_order.proofs.graph.Graph.close_and_drop.Goals as goal

pub index_mut-requires : goal.index_mut-requires
index_mut-requires c =
    let known = subst (λ (s : Shape). c.args.transaction < length s.into) (sym c.self.view_is) c.requires.known in
    let fits = c.self.invariant in
    let long = c.self.inside.is_open.ok.0 in
    omega arith

pub drop_all-requires : goal.drop_all-requires
drop_all-requires c = subst (λ (s : Shape). LeadForward (into_in s) s.live) (sym c.self.view_is) c.requires.usable.leads

pub returns-clause-ok : goal.returns-clause-ok
returns-clause-ok c =
    let t = c.args.transaction in
    let gone = c.args.gone.now in
    let old = shape_of c.self.inside.dropped.items c.self.inside.order c.self.inside.is_open.items in
    let new = shape_of c.extend_from_slice.new.self.items c.drop_all.new.self (set c.self.inside.is_open.items t false) in
    subst (λ (s : Shape). IsClosing t s new) c.self.view_is
    (closes old new t gone (subst (λ (s : Shape). AreGone t (order_of s) gone) (sym c.self.view_is) c.requires.gone) c.in_ok-extend_from_slice.ensures.items
    c.drop_all.ensures.live (λ y. set_false c.self.inside.is_open.items t y) c.drop_all.ensures.into c.drop_all.ensures.len)
