-- One more exit.
use Rattle.std.proofs.Common.{◌≡◌, ◌<◌, ℕ, Some, List, length, sym, subst, ◌∙◌, arith}
use Rattle.velodrome.specs.Cycles.{IsIn}
use Rattle.atom_order.specs.declared.slots.Exit.{Exit}
use Rattle.atom_order.specs.Exits.{links_at, source_at, exit_to}
use Rattle.atom_order.specs.LinkedOrder.{Ranked}
use Rattle.atom_order.specs.Reaching.{LeadForward}
use Rattle.atom_order.specs.Slots.{numbers_of, live_of, IsRank}
use Rattle.atom_order.specs.Sweeps.{IsFollowed}
use Rattle.atom_order.proofs.Followed.{none_followed, more_followed, followed}
use Rattle.atom_order.proofs.Stored.{all_exits}
use Rattle.atom_order.proofs.linked_order.LinkedOrder.follow.Goals as goal

pub loop-exit-init : goal.loop-exit-init
loop-exit-init c = none_followed c.transaction_at-from.result c.args.self.now c.args.left_out.now c.args.work.now.keys

pub loop-exit-preserved : goal.loop-exit-preserved
loop-exit-preserved c =
    let less : c.loop-exit.exit-index < length c.exits_at-exit-items.result.now = omega arith in
    more_followed c.transaction_at-from.result c.args.self.now c.args.left_out.now c.args.work.now.keys c.exits_at-exit-items.result.now c.loop-exit.exit-index
    (exit_to 0 0) c.loop-exit.work.keys c.enter.new.work.keys less c.loop-exit.invariant c.in_ok-enter.ensures

pub returns : goal.returns
returns c =
    let x = c.requires.live.0 in
    let k = c.args.rank in
    let e = c.self.view_is in
    let now = c.args.self.now in
    let left_out = c.args.left_out.now in
    let old = c.args.work.now.keys in
    let new = c.loop-exit.work.keys in
    let exits = c.exits_at-exit-items.result.now in
    let rank = subst (λ (o : Ranked). IsRank o.slots x k) (sym e) c.requires.live.1 in
    let forward = subst (λ (o : Ranked). LeadForward (links_at o.into) (live_of o.slots)) (sym e) c.requires.forward in
    let from : c.transaction_at-from.result ≡ x = c.transaction_at-from.ensures ∙ rank.here in
    let all = subst (λ (o : Ranked). (y i j : ℕ) → IsRank o.slots y j → source_at (links_at o.into y) i ≡ Some x → IsIn (exit_to y i) exits) e
    (subst (λ (es : List Exit). (y i j : ℕ) → IsRank (numbers_of c.self.inside.slots.slots) y j → source_at (links_at c.self.inside.into.items y) i ≡ Some x → IsIn (exit_to y i) es) (sym c.exits_at-exit-items.ensures)
    (all_exits c.self.inside.slots.slots c.self.inside.into.items x k c.self.invariant.1 forward rank)) in
    subst (λ v. IsFollowed v now left_out old new) (sym c.requires.live.1.here)
    (subst (λ v. IsFollowed v now left_out old new) from
    (followed c.transaction_at-from.result now left_out old exits c.loop-exit.exit-index new (omega arith)
    (subst (λ v. (y i j : ℕ) → IsRank now.slots y j → source_at (links_at now.into y) i ≡ Some v → IsIn (exit_to y i) exits) (sym from) all) c.loop-exit.invariant))
