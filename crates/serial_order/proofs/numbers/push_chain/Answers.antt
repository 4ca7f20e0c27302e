-- The chain's first event is appended to the numbers, and the chain continues.
use Rattle.std.proofs.Common.{◌≡◌, ◌+◌, ◌++◌, ◌∷◌, [], ℕ, List, suc, append_assoc, append-nil, add-one, sym, ap, ◌∙◌}
use Rattle.serial_order.proofs.Following.{chain_ends, chain_goes_on}
use Rattle.serial_order.proofs.numbers.push_chain.Goals as goal

pub loop-event-preserved : goal.loop-event-preserved
loop-event-preserved c = λ chain is.
    let left = c.loop-event.invariant chain is in
    let on = chain_goes_on c.args.next.now c.loop-event.event left.0 c.loop-event-test.true left.1 in
    (on.0, on.2, left.2 ∙ moved c.loop-event.numbers.items c.push.new.self.items left.0 on.0 c.loop-event.event on.1 c.in_ok-push.ensures.items)
  where
    moved : (numbers more left rest : List ℕ) (event : ℕ) → left ≡ suc event ∷ rest → more ≡ numbers ++ (event + 1) ∷ [] → numbers ++ left ≡ more ++ rest
    moved numbers more left rest event is put = ap (λ (l : List ℕ). numbers ++ l) is ∙ sym (ap (λ (l : List ℕ). l ++ rest) put ∙ append_assoc numbers ((event + 1) ∷ []) rest ∙ ap (λ (n : ℕ). numbers ++ n ∷ rest) (add-one event))

pub returns : goal.returns
returns c = λ chain is.
    let left = c.loop-event.invariant chain is in
    let none = chain_ends c.args.next.now c.loop-event.event left.0 c.loop-event-test.false left.1 in
    sym (left.2 ∙ ap (λ (rest : List ℕ). c.loop-event.numbers.items ++ rest) none ∙ append-nil c.loop-event.numbers.items)
