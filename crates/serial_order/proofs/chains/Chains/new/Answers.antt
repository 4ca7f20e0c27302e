-- The event is prepended to the others of its transaction.
use Rattle.std.proofs.Common.{◌≡◌, ℕ, length, get_or, set, drop, suc, ◌-◌, ◌<◌, ◌≤◌, length-set, refl, sym, ◌∙◌, subst, arith}
use Rattle.std.proofs.lemmas.Grind.{get_or_default_zero}
use Rattle.serial_order.specs.Chains.{AreRising, IsChain, events_of}
use Rattle.serial_order.proofs.Following.{chains_more, rising_more}
use Rattle.serial_order.proofs.chains.Chains.new.Goals as goal

pub loop-event-preserved : goal.loop-event-preserved
loop-event-preserved c =
    let most = c.args.most in
    let transactions = c.args.transactions.now in
    let first = c.loop-event.first.items in
    let next = c.loop-event.next.items in
    let k = c.loop-event.event - 1 in
    let p = get_or transactions k 0 in
    let is : c.loop-event.event ≡ suc (c.loop-event.event - 1) = omega arith in
    let within : k < length transactions = omega arith in
    let below : p ≤ most = c.requires.below k within in
    let firsts = c.loop-event.invariant.firsts in
    let nexts = c.loop-event.invariant.nexts in
    let inside : p < length first = omega arith in
    let value : c.index.result.now ≡ get_or first p 0 = c.index.ensures ∙ get_or_default_zero first p c.index.result.now inside in
    let chains = subst (λ e. (t : ℕ) → t ≤ most → IsChain next (get_or first t 0) (events_of t (suc e) (drop e transactions))) is c.loop-event.invariant.chains in
    record {
      firsts = length-set first _ _ ∙ firsts;
      nexts = length-set next _ _ ∙ nexts;
      rising = subst (λ v. AreRising (set next k v)) (sym value) (rising_more transactions first next most k within firsts nexts p refl below chains c.loop-event.invariant.rising);
      chains = subst (λ v. (t : ℕ) → t ≤ most → IsChain (set next k v) (get_or (set first p k) t 0) (events_of t (suc k) (drop k transactions))) (sym value) (chains_more transactions first next most k within firsts nexts p refl below chains);
    }
