-- The trail back, one link at a time.
use Rattle.std.proofs.Common.{◌-◌, ◌++◌, [], ◌∷◌, List, Some, length, sym, ap, subst, ◌∙◌, arith}
use Rattle.std.proofs.lemmas.List.{append_assoc, append-nil, length_push}
use Rattle.atom_order.specs.declared.link.Link.{Link}
use Rattle.atom_order.specs.Distances.{IsNearest, AreFar}
use Rattle.atom_order.specs.Trails.{IsTrail}
use Rattle.atom_order.specs.Shapes.{into_in}
use Rattle.atom_order.proofs.Ways.{step_back, leads_on, ends_at}
use Rattle.atom_order.proofs.graph.Graph.trail.Goals as goal

pub loop-at-smaller : goal.loop-at-smaller
loop-at-smaller c =
    let s = c.args.self.now in
    let nearest = subst (λ (ls : List Link). IsNearest ls c.args.distances.now.entries c.in-Some.near) c.links_into.ensures c.in-Some.ensures in
    let step = step_back s.live (into_in s) c.args.transaction c.args.distances.now.entries c.requires.distances c.loop-at.at (c.args.start.distance - length c.loop-at.trail.items) c.in-Some.near
    c.loop-at.invariant.far c.loop-at-test.true nearest in
    let one = step.1 in
    let long = ap (λ (l : List Link). length l) c.in_ok-push-in-Some.ensures.items ∙ length_push c.loop-at.trail.items c.in-Some.near.link in
    omega arith

pub loop-at-preserved : goal.loop-at-preserved
loop-at-preserved c =
    let s = c.args.self.now in
    let into = into_in s in
    let t = c.args.transaction in
    let near = c.in-Some.near in
    let start = c.args.start in
    let trail = c.loop-at.trail.items in
    let nearest = subst (λ (ls : List Link). IsNearest ls c.args.distances.now.entries c.in-Some.near) c.links_into.ensures c.in-Some.ensures in
    let step = step_back s.live into t c.args.distances.now.entries c.requires.distances c.loop-at.at (start.distance - length trail) near c.loop-at.invariant.far c.loop-at-test.true nearest in
    let one = step.1 in
    let long = ap (λ (l : List Link). length l) c.in_ok-push-in-Some.ensures.items ∙ length_push trail near.link in
    record {
      fits = omega arith;
      far = c.in-Some.ensures.at ∙ ap (λ n. Some n) (omega arith);
      more = λ tail way.
          subst (λ (l : List Link). IsTrail s.live into t start.link.from l) (sym (append_assoc trail (near.link ∷ []) tail) ∙ ap (λ (l : List Link). l ++ tail) (sym c.in_ok-push-in-Some.ensures.items))
          (c.loop-at.invariant.more (near.link ∷ tail) (step.0, nearest.among, way));
    }

pub returns-in-None-clause-way : goal.returns-in-None-clause-way
returns-in-None-clause-way c =
    let s = c.args.self.now in
    let far = subst (λ (ls : List Link). AreFar ls c.args.distances.now.entries) c.links_into.ensures c.in-None.ensures in
    absurd (leads_on s.live (into_in s) c.args.transaction c.args.distances.now.entries c.requires.distances c.loop-at.at _ c.loop-at.invariant.far c.loop-at-test.true far)

pub returns-in-None-clause-long : goal.returns-in-None-clause-long
returns-in-None-clause-long c =
    let s = c.args.self.now in
    let far = subst (λ (ls : List Link). AreFar ls c.args.distances.now.entries) c.links_into.ensures c.in-None.ensures in
    absurd (leads_on s.live (into_in s) c.args.transaction c.args.distances.now.entries c.requires.distances c.loop-at.at _ c.loop-at.invariant.far c.loop-at-test.true far)

pub returns-clause-way : goal.returns-clause-way
returns-clause-way c =
    let s = c.args.self.now in
    subst (λ (l : List Link). IsTrail s.live (into_in s) c.args.transaction c.args.start.link.from l) (append-nil c.loop-at.trail.items) (c.loop-at.invariant.more [] c.loop-at-test.false)

pub returns-clause-long : goal.returns-clause-long
returns-clause-long c =
    let s = c.args.self.now in
    let none = ends_at s.live (into_in s) c.args.transaction c.args.distances.now.entries c.requires.distances c.loop-at.at _ c.loop-at.invariant.far c.loop-at-test.false in
    let fits = c.loop-at.invariant.fits in
    omega arith
