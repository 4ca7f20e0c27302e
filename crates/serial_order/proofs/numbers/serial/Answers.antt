use Rattle.std.proofs.Common.{◌≡◌, ◌++◌, ℕ, ◌<◌, List, length, get_or, take, take_all, sym, ap, ◌∙◌, subst, subst₂, arith}
use Rattle.std.proofs.lemmas.Grind.{get_or_default_zero}
use Rattle.serial_order.specs.Chains.{IsChain, events_of, in_order}
use Rattle.serial_order.specs.Serial.{AreSerialOf}
use Rattle.serial_order.proofs.Asked.{in_order_more, in_order_serial, order_below, transactions_below}
use Rattle.serial_order.proofs.numbers.serial.Goals as goal

pub new-requires-clause-below : goal.new-requires-clause-below
new-requires-clause-below c = transactions_below c.args.transactions.now c.args.order.now c.requires

pub loop-transaction-preserved : goal.loop-transaction-preserved
loop-transaction-preserved c =
    let transactions = c.args.transactions.now in
    let order = c.args.order.now in
    let k = c.loop-transaction.transaction-index in
    let within : k < length order = omega arith in
    let below = order_below transactions order c.requires k within in
    let chains = c.in_ok-chains.ensures in
    let first = c.in_ok-chains.chains.first.items in
    let firsts = chains.firsts in
    let inside : get_or order k 0 < length first = omega arith in
    let value : c.index-first.result.now ≡ get_or first (get_or order k 0) 0 = c.index-first.ensures ∙ get_or_default_zero first (get_or order k 0) c.index-first.result.now inside in
    let chain = subst₂ (λ next event. IsChain next event (events_of (get_or order k 0) 1 transactions)) (sym c.as_slice.ensures.value) (sym value) (chains.chains (get_or order k 0) below) in
    c.in_ok-push_chain.ensures (events_of (get_or order k 0) 1 transactions) chain
    ∙ ap (λ (ns : List ℕ). ns ++ events_of (get_or order k 0) 1 transactions) c.loop-transaction.invariant
    ∙ sym (in_order_more transactions order k within)

pub returns : goal.returns
returns c =
    let transactions = c.args.transactions.now in
    let order = c.args.order.now in
    let all : take c.loop-transaction.transaction-index order ≡ order = take_all c.loop-transaction.transaction-index order (omega arith) in
    subst (AreSerialOf transactions order) (sym (c.from_vec.ensures ∙ c.loop-transaction.invariant ∙ ap (λ (ts : List ℕ). in_order transactions ts) all)) (in_order_serial transactions order)
