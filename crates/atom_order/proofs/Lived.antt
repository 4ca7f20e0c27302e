-- The live transactions are those that a checker must remember.
use Rattle.std.proofs.Common.{◌≡◌, ℕ, zero, suc, true, false, ◌↔◌, [], ◌∷◌, length, get_or, refl}
use Rattle.std.proofs.lemmas.Bool.{false≢true}
use Rattle.velodrome.specs.Reach.{IsOpen, AreReached}
use Rattle.velodrome.specs.Transactions.{TraceState}
use Rattle.atom_order.specs.Keeping.{IsKept}
use Rattle.atom_order.specs.Shapes.{Shape, order_of, open_in, no_transactions}
use Rattle.atom_order.proofs.Pairs.{pairs_distinct}
use Rattle.atom_order.proofs.Reached.{live_reached}

pub lived_reached : (w : TraceState) (s : Shape) → IsKept w.events w.transactions (order_of s) → ((a : ℕ) → (open_in s a ≡ true) ↔ IsOpen w a) → AreReached w (length s.live)
lived_reached w s k opens = live_reached w (order_of s) k (λ a. ((opens a).1, (opens a).0))

none_open : (y : ℕ) → get_or (false ∷ []) y false ≡ true → ⊥
none_open zero is = false≢true is
none_open (suc y) is = false≢true is

-- Before the first event.
pub nothing_kept : IsKept [] 0 (order_of no_transactions)
nothing_kept = record {
  numbered = λ e h. absurd h;
  counted = (refl, pairs_distinct [] tt, tt);
  ordered = tt;
  placed = λ e h. absurd h;
  opens = λ y is. absurd (none_open y is);
  live = λ y h. absurd h;
  ties = λ y l h g. absurd h;
  covers = λ a b h d. absurd h;
}
