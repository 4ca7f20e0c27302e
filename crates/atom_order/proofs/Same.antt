-- What the graph keeps for an order it keeps for an equal one, and that is usable.
use Rattle.std.proofs.Common.{◌≡◌, ℕ, inl, inr, List, ◌++◌, sym, ap, subst, ◌∙◌}
use Rattle.velodrome.specs.Cycles.{IsIn}
use Rattle.velodrome.specs.Orders.{AreNumbersTo, NoneLeadsBack}
use Rattle.velodrome.specs.Transactions.{Event}
use Rattle.atom_order.specs.Keeping.{Order, IsKept}
use Rattle.atom_order.specs.Shapes.{Shape, order_of, IsUsable}
use Rattle.atom_order.proofs.Pairs.{pairs_distinct}
use Rattle.atom_order.proofs.Kept.{leads_more, links_lead_forward}
use Rattle.atom_order.proofs.Reached.{live_apart}

-- The second order is the first, except for links into transactions that aren't live.
pub record IsAlike (o p : Order) : Type 0 where
  pub dropped : p.dropped ≡ o.dropped
  pub live : p.live ≡ o.live
  pub is_open : (y : ℕ) → p.is_open y ≡ o.is_open y
  pub into : (y : ℕ) → IsIn y o.live → p.into y ≡ o.into y

pub kept_alike : (events : List Event) (n : ℕ) (o p : Order) → IsAlike o p → IsKept events n o → IsKept events n p
kept_alike events n o p same k =
    record {
      numbered = k.numbered;
      counted = subst (AreNumbersTo n) all k.counted;
      ordered = subst (NoneLeadsBack events) all k.ordered;
      placed = λ e h. subst (IsIn e.transaction) all (k.placed e h);
      opens = λ y is. there y (k.opens y (sym (same.is_open y) ∙ is));
      live = λ y h. elim (k.live y (back y h)) [
        | inl is ↦ inl (same.is_open y ∙ is)
        | inr link ↦ inr (link.0, subst (IsIn link.0) (sym (same.into y (back y h))) link.1, there link.0.from link.2)
      ];
      ties = λ y l h g. k.ties y l (back y h) (subst (IsIn l) (same.into y (back y h)) g);
      covers = λ a b h d.
          leads_more o.live p.live o.into p.into a b there (λ y l stands g. subst (IsIn l) (sym (same.into y stands)) g) (k.covers a b (back a h) d);
    }
  where
    all : o.dropped ++ o.live ≡ p.dropped ++ p.live
    all = ap (λ l. l ++ o.live) (sym same.dropped) ∙ ap (λ l. p.dropped ++ l) (sym same.live)

    there : (y : ℕ) → IsIn y o.live → IsIn y p.live
    there y h = subst (IsIn y) (sym same.live) h

    back : (y : ℕ) → IsIn y p.live → IsIn y o.live
    back y h = subst (IsIn y) same.live h

pub usable_of_kept : (events : List Event) (n : ℕ) (s : Shape) → IsKept events n (order_of s) → IsUsable s
usable_of_kept events n s k = record {
  distinct = pairs_distinct s.live (live_apart events n (order_of s) k);
  leads = links_lead_forward events n (order_of s) k;
  opens = k.opens;
  live = k.live;
}
