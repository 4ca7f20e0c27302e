-- One more transaction doesn't stay live, or one stays.
use Rattle.std.proofs.Common.{◌≡◌, ◌<◌, ℕ, false, true, List, [], ◌++◌, ◌∷◌, length, get_or, refl, sym, ap, subst, ◌∙◌}
use Rattle.std.specs.List.{list_any}
use Rattle.atom_order.specs.Exits.{links_at}
use Rattle.atom_order.specs.LinkedOrder.{Ranked, shape_of}
use Rattle.atom_order.specs.Reaching.{LeadForward}
use Rattle.atom_order.specs.Shapes.{order_of}
use Rattle.atom_order.specs.Slots.{live_of}
use Rattle.atom_order.specs.Sweeps.{AreGone, IsFollowed}
use Rattle.atom_order.proofs.Stored.{from_live}
use Rattle.atom_order.proofs.Sweeping.{IsDropping, drop_end, drop_go, drop_nearer, drop_nearer_too, drop_start, drop_stay, empty_by, empty_len, far_from, popped, rank_here}
use Rattle.atom_order.proofs.linked_order.LinkedOrder.gone_from.Goals as goal

pub returns-then-is_empty-clause-gone : goal.returns-then-is_empty-clause-gone
returns-then-is_empty-clause-gone c =
    let o = c.args.self.now in
    let t = c.args.transaction in
    let opens = c.args.is_open.now in
    let work = c.follow.new.work.keys in
    drop_end o t opens c.requires.usable work (t ∷ [])
    (drop_start o t opens c.requires.usable c.args.rank c.new-work.result.keys work c.new-work.ensures.empty c.requires.rank c.requires.last
    (subst (λ x. IsFollowed x o opens c.new-work.result.keys work) c.requires.rank.here c.in_ok-follow.ensures))
    (empty_len work (c.if-is_empty.ensures.0 refl))

pub loop-next-init : goal.loop-next-init
loop-next-init c =
    let o = c.args.self.now in
    let t = c.args.transaction in
    let opens = c.args.is_open.now in
    record {
      same = refl;
      state = subst (λ (g : List ℕ). IsDropping o t opens c.follow.new.work.keys g)
          (sym (c.in_ok-push.ensures.ok ∙ ap (λ (g : List ℕ). g ++ t ∷ []) c.new-gone.ensures))
          (drop_start o t opens c.requires.usable c.args.rank c.new-work.result.keys c.follow.new.work.keys c.new-work.ensures.empty c.requires.rank c.requires.last
          (subst (λ x. IsFollowed x o opens c.new-work.result.keys c.follow.new.work.keys) c.requires.rank.here c.in_ok-follow.ensures));
    }

pub follow-requires-then-not-is_linked-clause-forward : goal.follow-requires-then-not-is_linked-clause-forward
follow-requires-then-not-is_linked-clause-forward c =
    subst (λ (o : Ranked). LeadForward (links_at o.into) (live_of o.slots)) (sym (c.is_linked.ensures.same ∙ c.loop-next.invariant.same)) c.requires.usable.leads

pub loop-next-smaller-in-Continue-branch-4 : goal.loop-next-smaller-in-Continue-branch-4
loop-next-smaller-in-Continue-branch-4 c =
    let o = c.args.self.now in
    let opens = c.args.is_open.now in
    let state = c.loop-next.invariant.state in
    let same = c.is_linked.ensures.same ∙ c.loop-next.invariant.same in
    let k = c.in-Some.next in
    let x = get_or o.slots k 0 in
    let rest = c.pop_first.new.self.keys in
    let next = c.follow-then-not-is_linked.new.work.keys in
    let pop = popped k c.loop-next.work.keys rest c.in-Some.ensures.member c.in-Some.ensures.least c.in-Some.ensures.updates.0 in
    let w = (state.waits k pop.was).1 in
    subst (λ (ks : List ℕ). far_from (length o.slots) next < far_from (length o.slots) ks) (sym c.in-Some.ensures.removal)
    (drop_nearer o c.args.transaction opens c.requires.usable c.loop-next.work.keys rest c.loop-next.gone k x state pop (rank_here o.slots w.0 k w.1) next rest
    (subst (λ (r : Ranked). IsFollowed (get_or r.slots k 0) r opens rest next) same c.in_ok-follow-2.ensures))

pub loop-next-smaller : goal.loop-next-smaller
loop-next-smaller c =
    let o = c.args.self.now in
    let state = c.loop-next.invariant.state in
    let k = c.in-Some.next in
    let rest = c.pop_first.new.self.keys in
    let pop = popped k c.loop-next.work.keys rest c.in-Some.ensures.member c.in-Some.ensures.least c.in-Some.ensures.updates.0 in
    let w = (state.waits k pop.was).1 in
    subst (λ (ks : List ℕ). far_from (length o.slots) rest < far_from (length o.slots) ks) (sym c.in-Some.ensures.removal)
    (drop_nearer_too o c.args.transaction c.args.is_open.now c.requires.usable c.loop-next.work.keys rest c.loop-next.gone k (get_or o.slots k 0) state pop (rank_here o.slots w.0 k w.1) rest)

pub loop-next-preserved-in-Continue-branch-4 : goal.loop-next-preserved-in-Continue-branch-4
loop-next-preserved-in-Continue-branch-4 c =
    let o = c.args.self.now in
    let t = c.args.transaction in
    let opens = c.args.is_open.now in
    let state = c.loop-next.invariant.state in
    let before = c.loop-next.invariant.same in
    let same = c.is_linked.ensures.same ∙ before in
    let k = c.in-Some.next in
    let x = get_or o.slots k 0 in
    let rest = c.pop_first.new.self.keys in
    let next = c.follow-then-not-is_linked.new.work.keys in
    let pop = popped k c.loop-next.work.keys rest c.in-Some.ensures.member c.in-Some.ensures.least c.in-Some.ensures.updates.0 in
    let w = (state.waits k pop.was).1 in
    let found : c.transaction_at.result ≡ x = c.transaction_at.ensures ∙ ap (λ (r : Ranked). get_or r.slots k 0) (c.self-in-Some.view_is ∙ same) in
    let none : list_any (from_live (live_of o.slots) c.loop-next.gone) (links_at o.into x) ≡ false =
    sym (subst (λ (r : Ranked). c.is_linked.result ≡ list_any (from_live (live_of r.slots) c.loop-next.gone) (links_at r.into (get_or r.slots k 0))) before c.is_linked.ensures.linked) ∙ c.if-not-is_linked.true in
    record {
      same = same;
      state = subst (λ (g : List ℕ). IsDropping o t opens next g) (ap (λ y. c.loop-next.gone ++ y ∷ []) (sym found) ∙ sym c.in_ok-push-2.ensures.ok)
          (drop_go o t opens c.requires.usable c.loop-next.work.keys rest c.loop-next.gone k x state pop (rank_here o.slots w.0 k w.1) next none
          (subst (λ (r : Ranked). IsFollowed (get_or r.slots k 0) r opens rest next) same c.in_ok-follow-2.ensures));
    }

pub loop-next-preserved : goal.loop-next-preserved
loop-next-preserved c =
    let o = c.args.self.now in
    let t = c.args.transaction in
    let opens = c.args.is_open.now in
    let state = c.loop-next.invariant.state in
    let before = c.loop-next.invariant.same in
    let k = c.in-Some.next in
    let x = get_or o.slots k 0 in
    let pop = popped k c.loop-next.work.keys c.pop_first.new.self.keys c.in-Some.ensures.member c.in-Some.ensures.least c.in-Some.ensures.updates.0 in
    let w = (state.waits k pop.was).1 in
    let held : list_any (from_live (live_of o.slots) c.loop-next.gone) (links_at o.into x) ≡ true =
    sym (subst (λ (r : Ranked). c.is_linked.result ≡ list_any (from_live (live_of r.slots) c.loop-next.gone) (links_at r.into (get_or r.slots k 0))) before c.is_linked.ensures.linked) ∙ c.if-not-is_linked.false in
    record {
      same = c.is_linked.ensures.same ∙ before;
      state = drop_stay o t opens c.requires.usable c.loop-next.work.keys c.pop_first.new.self.keys c.loop-next.gone k x state pop (rank_here o.slots w.0 k w.1) held;
    }

pub returns-clause-gone : goal.returns-clause-gone
returns-clause-gone c =
    let o = c.args.self.now in
    let t = c.args.transaction in
    let opens = c.args.is_open.now in
    subst (λ (g : List ℕ). AreGone t (order_of (shape_of [] o opens)) g) (sym c.into_vec.ensures)
    (drop_end o t opens c.requires.usable c.loop-next.work.keys c.loop-next.gone c.loop-next.invariant.state (empty_by c.loop-next.work.keys c.in_default.ensures.variant.1))
