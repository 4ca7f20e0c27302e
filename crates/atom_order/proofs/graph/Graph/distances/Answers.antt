-- One more transaction is visited.
use Rattle.std.proofs.Common.{◌≡◌, ℕ, ◌<◌, ◌≤◌, ◌++◌, List, length, get_or, sym, ap, subst, ◌∙◌, arith}
use Rattle.atom_order.specs.Shapes.{Shape, into_in}
use Rattle.atom_order.specs.Slots.{live_of}
use Rattle.atom_order.proofs.Members.{in_from_among}
use Rattle.atom_order.proofs.Ways.{one_more, none_more, all_so_far}
use Rattle.atom_order.proofs.graph.Graph.distances.Goals as goal
use Rattle.atom_order.proofs.graph.Graph.distances.Goals.{in-Some+in_ok-insert, in_default}

pub distance-requires : goal.distance-requires
distance-requires c = record {
  fits = λ x n at.
      let low = (c.loop-y.invariant.kept x n at).1 in
      let test = c.loop-y-test.true in
      omega arith;
}

pub loop-y-preserved : goal.loop-y-preserved
loop-y-preserved c =
    let s = c.args.self.now in
    let there = in_from_among c.args.transaction s.live c.requires.live in
    let same : c.as_slice-y-items.result.now ≡ s.live = c.as_slice-y-items.ensures.value ∙ c.in_ok-append_live.ensures
    ∙ ap (λ (l : List ℕ). l ++ live_of c.self.inside.order.slots) c.new-live.ensures.items ∙ ap (λ (v : Shape). v.live) c.self.view_is in
    let i = c.loop-y.y-index in
    let less : i < length s.live = subst (λ (l : List ℕ). i < length l) same c.loop-y-test.true in
    let here = ap (λ (l : List ℕ). get_or l i 0) (sym same) in
    elim c.match-distance.branch [
      | in-Some+in_ok-insert w ↦ rw w.distances-is
          (one_more s.live (into_in s) c.args.transaction there c.requires.usable.leads i _ c.loop-y.distances.entries less here c.loop-y.invariant _ _
          w.in-Some.ensures w.in_ok-insert.ensures.updates.0)
      | in_default w ↦ rw w.distances-is
          (none_more s.live (into_in s) c.args.transaction there c.requires.usable.leads i _ c.loop-y.distances.entries less here c.loop-y.invariant
          w.in_default.ensures.0 w.in_default.ensures.1)
    ]

pub returns : goal.returns
returns c =
    let s = c.args.self.now in
    let there = in_from_among c.args.transaction s.live c.requires.live in
    let same : c.as_slice-y-items.result.now ≡ s.live = c.as_slice-y-items.ensures.value ∙ c.in_ok-append_live.ensures
    ∙ ap (λ (l : List ℕ). l ++ live_of c.self.inside.order.slots) c.new-live.ensures.items ∙ ap (λ (v : Shape). v.live) c.self.view_is in
    all_so_far s.live (into_in s) c.args.transaction there c.requires.usable.leads c.loop-y.y-index c.loop-y.distances.entries
    (subst (λ (l : List ℕ). length l ≤ c.loop-y.y-index) same c.loop-y-test.false) c.loop-y.invariant
