-- Facts about the input of a serial order.
use Rattle.std.proofs.Common.{◌≡◌, ℕ, zero, suc, ◌+◌, ◌<◌, ◌≤◌, List, [], ◌∷◌, ◌++◌, length, get_or, take, sym, ap, ◌∙◌, subst, arith, append-nil, append_assoc}
use Rattle.std.specs.List.{AllByRecursion}
use Rattle.velodrome.specs.Cycles.{IsIn}
use Rattle.velodrome.specs.Transactions.{Event, trace_state_of}
use Rattle.serial_order.specs.Chains.{events_of, in_order}
use Rattle.serial_order.specs.Serial.{AreSerialOf, HasItems}
use Rattle.serial_order.proofs.Blocks.{serial_is}
use Rattle.serial_order.proofs.Members.{all_of_members, of_map}
use Rattle.serial_order.proofs.TraceStates.{trace_state_counted}

all_at : (P : ℕ → Type 0) (ns : List ℕ) (k : ℕ) → AllByRecursion P ns → k < length ns → P (get_or ns k 0)
all_at P [] k all within = absurd (omega arith)
all_at P (n ∷ ns) zero all within = all.0
all_at P (n ∷ ns) (suc k) all within = all_at P ns k all.1 (omega arith)

-- No transaction number exceeds the length of the order.
pub transactions_below : (transactions order : List ℕ) → HasItems transactions order → (k : ℕ) → k < length transactions → get_or transactions k 0 ≤ length order
transactions_below transactions order asked k within = all_at (λ n. n ≤ length order) transactions k all within
  where
    events : List Event
    events = (trace_state_of asked.0 asked.1).events

    all : AllByRecursion (λ n. n ≤ length order) transactions
    all = all_of_members (λ n. n ≤ length order) transactions each
      where
        each : (n : ℕ) → IsIn n transactions → n ≤ length order
        each n in_transactions =
            let found = of_map (λ (e : Event). e.transaction) n events (subst (λ ts. IsIn n ts) (sym asked.2.of_events) in_transactions) in
            let begun = (trace_state_counted asked.0 asked.1).begun found.0 found.1 in
            let high = begun.1 in
            let long = asked.2.is_order.0.0 in
            let same = found.2 in
            omega arith

pub order_below : (transactions order : List ℕ) → HasItems transactions order → (k : ℕ) → k < length order → get_or order k 0 ≤ length order
order_below transactions order asked k within = let bounds = all_at (λ n. (0 < n) × (n ≤ (trace_state_of asked.0 asked.1).transactions)) order k asked.2.is_order.0.2 within in let high = bounds.1 in let long = asked.2.is_order.0.0 in omega arith

-- One more transaction appends its events.
pub in_order_more : (transactions order : List ℕ) (k : ℕ) → k < length order → in_order transactions (take (k + 1) order) ≡ in_order transactions (take k order) ++ events_of (get_or order k 0) 1 transactions
in_order_more transactions [] k within = absurd (omega arith)
in_order_more transactions (t ∷ order) zero within = append-nil (events_of t 1 transactions)
in_order_more transactions (t ∷ order) (suc k) within =
    let more : suc k + 1 ≡ suc (k + 1) = omega arith in
    ap (λ (n : ℕ). in_order transactions (take n (t ∷ order))) more
    ∙ ap (λ (ns : List ℕ). events_of t 1 transactions ++ ns) (in_order_more transactions order k (omega arith))
    ∙ sym (append_assoc (events_of t 1 transactions) (in_order transactions (take k order)) (events_of (get_or order k 0) 1 transactions))

-- The events of all transactions are the result.
pub in_order_serial : (transactions order : List ℕ) → AreSerialOf transactions order (in_order transactions order)
in_order_serial transactions order lines items is = serial_is lines items transactions order is
