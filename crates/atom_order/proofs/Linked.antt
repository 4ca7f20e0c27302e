-- What is kept after an event is added to a live transaction with links into it, or the cycle that a link closes.
use Rattle.std.proofs.Common.{◌≡◌, ◌≢◌, ℕ, ◌+◌, true, cond, ◌==◌, ◌⊎◌, List, [], ◌∷◌, ◌++◌, length, take, get_or, sym, ap, subst, Bool, false}
use Rattle.velodrome.specs.Conflicts.{conflict}
use Rattle.velodrome.specs.Cycles.{IsIn, IsCycle, IsFirstAt}
use Rattle.velodrome.specs.Transactions.{Event}
use Rattle.velodrome.specs.Verdicts.{ArePairNumbers, IsShownCycle}
use Rattle.velodrome.specs.declared.verdict.ConflictingPair.{ConflictingPair}
use Rattle.atom_order.specs.declared.link.Link.{Link}
use Rattle.atom_order.specs.declared.link.Closing.{Closing}
use Rattle.atom_order.specs.Keeping.{IsKept, Leads, with_links}
use Rattle.atom_order.specs.Shapes.{Shape, order_of, open_in, into_in, IsUsable, IsLinking, ClosesCycle}
use Rattle.atom_order.specs.Trails.{transactions_along, pairs_along}
use Rattle.atom_order.proofs.Members.{in_left, in_sides, sides_in}
use Rattle.atom_order.proofs.Kept.{adds, leads_now, leads_more}
use Rattle.atom_order.proofs.Cycle.{shown, first}
use Rattle.atom_order.proofs.Same.{kept_alike, usable_of_kept}

-- ---- Links were added

module _ (t : ℕ) (links : List Link) (old new : Shape) (linking : IsLinking t links old new) where
  pub linked_open : (y : ℕ) → open_in new y ≡ open_in old y
  linked_open y = ap (λ opens. get_or opens y false) linking.is_open

  pub linked_live : (y : ℕ) → IsIn y old.live → IsIn y new.live
  linked_live y h = subst (IsIn y) (sym linking.live) (in_sides linking.reaches y old.live h)

  pub linked_was_live : (y : ℕ) → IsIn y new.live → IsIn y old.live
  linked_was_live y h = sides_in linking.reaches y old.live (subst (IsIn y) linking.live h)

  gains : (y : ℕ) (l : Link) → IsIn l (into_in old y) → IsIn l (into_in new y)
  gains y l h = subst (IsIn l) (sym (linking.into y)) (by (y == t))
    where
      by : (b : Bool) → IsIn l (cond b (into_in old y ++ links) (into_in old y))
      by true = in_left l (into_in old y) links h
      by false = h

  -- What led before still leads.
  pub linked_leads : (a b : ℕ) → Leads old.live (into_in old) a b → Leads new.live (into_in new) a b
  linked_leads a b = leads_more old.live new.live (into_in old) (into_in new) a b linked_live (λ y l _ h. gains y l h)

module _ (events : List Event) (n : ℕ) (f : Event) (links : List Link) (old new : Shape) (k : IsKept events n (order_of old))
    (numbered : f.number ≡ length events + 1) (there : IsIn f.transaction old.live)
    (sound : (l : Link) → IsIn l links → (l.from ≢ f.transaction) × ArePairNumbers (events ++ f ∷ []) l.from f.transaction l.pair)
    (near : (e : Event) → IsIn e events → conflict e.item f.item ≡ true → IsIn e.transaction old.live
    → (x : ℕ) × Leads old.live (into_in old) e.transaction x × ((x ≡ f.transaction) ⊎ ((l : Link) × IsIn l links × (l.from ≡ x))))
    (linking : IsLinking f.transaction links old new) where
  pub linked_kept : IsKept (events ++ f ∷ []) n (order_of new)
  linked_kept =
      kept_alike (events ++ f ∷ []) n (with_links f.transaction links linking.reaches (order_of old)) (order_of new)
      (record { dropped = linking.dropped; live = linking.live; is_open = linked_open f.transaction links old new linking; into = λ y _. linking.into y })
      (adds events n (order_of old) f links linking.reaches k numbered there linking.reach sound near)

  pub linked_usable : IsUsable new
  linked_usable = usable_of_kept (events ++ f ∷ []) n new linked_kept

  -- If an earlier event conflicts with the new one, its transaction leads to the new one's.
  pub linked_leads_now : (e : Event) → IsIn e events → conflict e.item f.item ≡ true → IsIn e.transaction old.live → Leads new.live (into_in new) e.transaction f.transaction
  linked_leads_now e h against stands =
      let t = f.transaction in
      let onto = λ (y : ℕ). cond (y == t) (into_in old y ++ links) (into_in old y) in
      leads_more (with_links t links linking.reaches (order_of old)).live new.live onto (into_in new) e.transaction t
      (λ y g. subst (IsIn y) (sym linking.live) g) (λ y l _ g. subst (IsIn l) (sym (linking.into y)) g)
      (leads_now events n (order_of old) f links linking.reaches k numbered there linking.reach sound near e h against stands)

-- ---- A link closes a cycle

pub cycle_of_shown : (events : List Event) (n : ℕ) (transactions : List ℕ) (pairs : List ConflictingPair) → IsShownCycle events n transactions pairs → IsCycle events transactions
cycle_of_shown events n [] pairs s = s
cycle_of_shown events n (t ∷ transactions) pairs s = s.0

module _ (events : List Event) (n : ℕ) (f : Event) (links : List Link) (s : Shape) (k : IsKept events n (order_of s)) (numbered : f.number ≡ length events + 1)
    (sound : (l : Link) → IsIn l links → (l.from ≢ f.transaction) × ArePairNumbers (events ++ f ∷ []) l.from f.transaction l.pair)
    (c : Closing) (closes : ClosesCycle f.transaction links s c) where
  abbrev pub closed_transactions : List ℕ
  closed_transactions = transactions_along (c.by.from ∷ []) c.trail.items

  abbrev pub closed_pairs : List ConflictingPair
  closed_pairs = pairs_along (c.by.pair ∷ []) c.trail.items

  whole : IsShownCycle (events ++ f ∷ []) f.number closed_transactions closed_pairs
  whole =
      let by = sound c.by closes.among in
      shown events n (order_of s) f k c.by.from c.by.pair c.trail.items by.0 by.1 closes.way

  least : (take f.number (events ++ f ∷ []) ≡ events ++ f ∷ []) × IsFirstAt (events ++ f ∷ []) f.number
  least = first events n (order_of s) f k numbered closed_transactions (cycle_of_shown (events ++ f ∷ []) f.number closed_transactions closed_pairs whole)

  pub closed_first : IsFirstAt (events ++ f ∷ []) f.number
  closed_first = least.1

  pub closed_shown : IsShownCycle (take f.number (events ++ f ∷ [])) f.number closed_transactions closed_pairs
  closed_shown = subst (λ es. IsShownCycle es f.number closed_transactions closed_pairs) (sym least.0) whole
