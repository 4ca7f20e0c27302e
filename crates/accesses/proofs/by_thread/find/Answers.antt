use Rattle.std.proofs.Common.{◌≡◌, ◌≢◌, ◌<◌, ◌≤◌, ◌⊎◌, ℕ, inl, inr, ⊎_elim, length, refl, subst, arith}
use Rattle.accesses.specs.ByThread.{is_odd, next_of, node_in, thread_in}
use Rattle.accesses.proofs.Ways.{ahead_on, ends_here, first_or_none, starts, way_on}
use Rattle.accesses.proofs.by_thread.find.Goals as goal

pub loop-at-init : goal.loop-at-init
loop-at-init c = record {
  inside = first_or_none (length c.args.nodes.now);
  ahead = starts c.args.nodes.now c.args.thread c.requires;
  way = λ ms more n i is. (n, is);
}

pub returns-then-next-at : goal.returns-then-next-at
returns-then-next-at c =
    let ns = c.args.nodes.now in
    let at = c.loop-at.at in
    let bits = c.loop-at.bits in
    let less : at < length ns = c.loop-at-test.true in
    let other : thread_in ns at ≢ c.args.thread = c.if-nodes-at.false in
    let next : c.next-next.result ≡ next_of (node_in ns at) (is_odd bits) = c.next-next.ensures in
    let either : (c.next-next.result ≤ at) ⊎ (length ns ≤ c.next-next.result) = ⊎_elim (λ low. inl low) (λ both. inr both.1) c.then-next-at.either in
    let free = subst (λ (n : ℕ). (n ≤ at) ⊎ (length ns ≤ n)) next either in
    ends_here ns c.args.thread at bits (is_odd bits) less c.loop-at.invariant.ahead c.loop-at.invariant.way other refl free

pub loop-at-preserved : goal.loop-at-preserved
loop-at-preserved c =
    let ns = c.args.nodes.now in
    let at = c.loop-at.at in
    let bits = c.loop-at.bits in
    let less : at < length ns = c.loop-at-test.true in
    let other : thread_in ns at ≢ c.args.thread = c.if-nodes-at.false in
    let next : c.next-next.result ≡ next_of (node_in ns at) (is_odd bits) = c.next-next.ensures in
    rw next
    (record {
      inside = inl (rw (← next) (omega arith));
      ahead = ahead_on ns c.args.thread at bits c.loop-at.invariant.ahead other;
      way = way_on ns c.args.thread at bits c.loop-at.invariant.way less other (rw (← next) (omega arith)) (rw (← next) (omega arith));
    })
