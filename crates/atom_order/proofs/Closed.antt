-- What is kept after a transaction is closed.
use Rattle.std.proofs.Common.{◌≡◌, ℕ, true, List, sym, subst}
use Rattle.std.specs.List.{filter}
use Rattle.velodrome.specs.Cycles.{IsIn}
use Rattle.velodrome.specs.Transactions.{Event}
use Rattle.atom_order.specs.Keeping.{IsKept, Leads, with_drop}
use Rattle.atom_order.specs.Shapes.{Shape, order_of, into_in, IsUsable, IsClosing}
use Rattle.atom_order.proofs.Members.{filter_in}
use Rattle.atom_order.proofs.Kept.{drops, leads_left, leads_more}
use Rattle.atom_order.proofs.Same.{kept_alike, usable_of_kept}

module _ (events : List Event) (n t : ℕ) (old new : Shape) (k : IsKept events n (order_of old)) (closing : IsClosing t old new) where
  -- What stays live was live.
  pub closed_was_live : (y : ℕ) → IsIn y new.live → IsIn y old.live × (closing.keeps y ≡ true)
  closed_was_live y h = filter_in closing.keeps y old.live (subst (IsIn y) closing.live h)

  pub closed_kept : IsKept events n (order_of new)
  closed_kept =
      kept_alike events n (with_drop t closing.keeps (order_of old)) (order_of new)
      (record { dropped = closing.dropped; live = closing.live; is_open = closing.is_open; into = λ y h. closing.into y (filter_in closing.keeps y old.live h).1 })
      (drops events n (order_of old) t closing.keeps k closing.left)

  pub closed_usable : IsUsable new
  closed_usable = usable_of_kept events n new closed_kept

  -- From a transaction that stays live, what led before still leads.
  pub closed_leads : (a b : ℕ) → IsIn a new.live → Leads old.live (into_in old) a b → Leads new.live (into_in new) a b
  closed_leads a b h leads =
      leads_more (filter closing.keeps old.live) new.live (into_in old) (into_in new) a b
      (λ y g. subst (IsIn y) (sym closing.live) g)
      (λ y l g m. subst (IsIn l) (sym (closing.into y (filter_in closing.keeps y old.live g).1)) m)
      (leads_left events n (order_of old) t closing.keeps k closing.left a b (closed_was_live a h).1 leads)
