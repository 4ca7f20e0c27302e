-- The live transactions are those that open ones reach.
use Rattle.std.proofs.Common.{◌≡◌, ℕ, zero, suc, ◌<◌, true, ◌↔◌, inl, inr, List, [], ◌∷◌, ◌++◌, length, refl, sym, subst, arith}
use Rattle.velodrome.specs.Cycles.{IsIn, IsEdge, AreAtomic}
use Rattle.velodrome.specs.Reach.{IsOpen, IsPath, IsReached, AreReached}
use Rattle.velodrome.specs.Orders.{IsOrder}
use Rattle.velodrome.specs.Transactions.{Event, TraceState}
use Rattle.atom_order.specs.Keeping.{Order, IsKept}
use Rattle.atom_order.proofs.Pairs.{Pairs, Differ, order_pairs, distinct_pairs, pairs_distinct, pairs_back}
use Rattle.atom_order.proofs.Kept.{leads_to_live}
use Rattle.atom_order.proofs.Ranks.{place, rises_in_order, atomic_by_rank}

path_on : (events : List Event) (a : ℕ) (through : List ℕ) (b c : ℕ) → IsPath events a through b → IsEdge events b c → IsPath events a (through ++ c ∷ []) c
path_on events a [] b c same d = (subst (λ v. IsEdge events v c) (sym same) d, refl)
path_on events a (x ∷ through) b c p d = (p.0, path_on events x through b c p.1 d)

module _ (events : List Event) (n : ℕ) (o : Order) (k : IsKept events n o) where
  pub edges_rise : (a b : ℕ) → IsEdge events a b → place a (o.dropped ++ o.live) < place b (o.dropped ++ o.live)
  edges_rise = rises_in_order events (o.dropped ++ o.live) (order_pairs events (o.dropped ++ o.live) k.ordered) k.placed

  pub kept_atomic : AreAtomic events
  kept_atomic = atomic_by_rank events (λ x. place x (o.dropped ++ o.live)) edges_rise

  pub kept_order : IsOrder events n (o.dropped ++ o.live)
  kept_order = (k.counted, k.ordered)

  pub live_apart : Pairs Differ o.live
  live_apart = pairs_back Differ o.dropped o.live (distinct_pairs (o.dropped ++ o.live) k.counted.1)

  pub stays_live : (a : ℕ) (through : List ℕ) (b : ℕ) → IsIn a o.live → IsPath events a through b → IsIn b o.live
  stays_live a [] b h same = subst (λ v. IsIn v o.live) same h
  stays_live a (c ∷ through) b h p = stays_live c through b (leads_to_live o.live o.into a c h (k.covers a c h p.0)) p.1

module _ (w : TraceState) (o : Order) (k : IsKept w.events w.transactions o) (opens : (a : ℕ) → IsOpen w a ↔ (o.is_open a ≡ true)) where
  reached_below : (fuel a : ℕ) → place a (o.dropped ++ o.live) < fuel → IsIn a o.live → IsReached w a
  reached_below zero a less h = absurd (omega arith)
  reached_below (suc fuel) a less h = elim (k.live a h) [
    | inl is ↦ (a, (opens a).1 is, ([], refl))
    | inr link ↦
        let tie = k.ties a link.0 h link.1 in
        let edge : IsEdge w.events link.0.from a = (tie.0, tie.1.0, tie.1.1, tie.1.2) in
        let lower = edges_rise w.events w.transactions o k link.0.from a edge in
        let before = reached_below fuel link.0.from (omega arith) link.2 in
        (before.0, before.1, (before.2.0 ++ a ∷ [], path_on w.events before.0 before.2.0 link.0.from a before.2.1 edge))
  ]

  pub live_reached : AreReached w (length o.live)
  live_reached = (
    o.live,
    refl,
    pairs_distinct o.live (live_apart w.events w.transactions o k),
    λ a. (
      reached_below (suc (place a (o.dropped ++ o.live))) a (omega arith),
      λ r. stays_live w.events w.transactions o k r.0 r.2.0 a (k.opens r.0 ((opens r.0).0 r.1)) r.2.1,
    ),
  )
