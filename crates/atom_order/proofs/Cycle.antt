-- A trail back to a transaction from one that conflicts with the new event closes a cycle.
use Rattle.std.proofs.Common.{◌≡◌, ◌≢◌, ℕ, zero, suc, ◌+◌, ◌<◌, ◌≤◌, inl, inr, List, [], ◌∷◌, ◌++◌, length, take, refl, sym, ap, subst, arith}
use Rattle.std.proofs.lemmas.Bool.{ne_eqb}
use Rattle.std.proofs.lemmas.List.{length_push, take_all, take-append-le}
use Rattle.velodrome.specs.Cycles.{IsIn, IsEdge, AreEdgesRound, IsCycle, IsFirstAt, AreAtomic}
use Rattle.velodrome.specs.Transactions.{Event}
use Rattle.velodrome.specs.Verdicts.{ArePairNumbers, ArePairsRound, IsShownCycle}
use Rattle.velodrome.specs.declared.verdict.ConflictingPair.{ConflictingPair}
use Rattle.atom_order.specs.declared.link.Link.{Link}
use Rattle.atom_order.specs.Keeping.{Order, IsKept}
use Rattle.atom_order.specs.Trails.{IsTrail, transactions_along, pairs_along}
use Rattle.atom_order.proofs.Members.{in_left, in_right, in_all, all_in}
use Rattle.atom_order.proofs.Pairs.{Pairs, Differ, pairs_distinct, pairs_mapped}
use Rattle.atom_order.proofs.Edges.{pair_within, edge_within, atomic_within}
use Rattle.atom_order.proofs.Ranks.{place}
use Rattle.atom_order.proofs.Reached.{edges_rise, kept_atomic}

pub taken : {X : Type 0} (m : ℕ) (xs : List X) (x : X) → IsIn x (take m xs) → IsIn x xs
taken zero xs x h = absurd h
taken (suc m) [] x h = h
taken (suc m) (y ∷ ys) x (inl e) = inl e
taken (suc m) (y ∷ ys) x (inr h) = inr (taken m ys x h)

module _ (events : List Event) (n : ℕ) (o : Order) (f : Event) (k : IsKept events n o) where
  abbrev now : List Event
  now = events ++ f ∷ []

  abbrev t : ℕ
  t = f.transaction

  abbrev rank : ℕ → ℕ
  rank x = place x (o.dropped ++ o.live)

  abbrev Lower : ℕ → ℕ → Type 0
  Lower x y = rank x < rank y

  -- Edges lead round through these with these pairs, and all but the last rise in the order.
  abbrev IsGood : List ℕ → List ConflictingPair → Type 0
  IsGood ts ps = AreEdgesRound now t ts × ArePairsRound now t ts ps × Pairs Lower ts

  within : (e : Event) → IsIn e events → IsIn e now
  within e h = in_left e events (f ∷ []) h

  longer : (x b : ℕ) (p : ConflictingPair) (ts : List ℕ) (ps : List ConflictingPair) → IsEdge events x b → ArePairNumbers events x b p → IsGood (b ∷ ts) ps → IsGood (x ∷ b ∷ ts) (p ∷ ps)
  longer x b p ts ps d pair good =
      let up : rank x < rank b = edges_rise events n o k x b d in (
        (edge_within events now x b within d, good.0),
        ((pair.0, pair.1, pair_within events now x b pair.0 pair.1 within pair.2, pair.3, pair.4), good.1),
        ((up, in_all (Lower x) ts (λ y h. let more = all_in (Lower b) ts y good.2.0 h in omega arith)), good.2),
      )

  -- The edges along a trail begin at its end.
  along : (links : List Link) (b : ℕ) (ts : List ℕ) (ps : List ConflictingPair) → IsTrail o.live o.into t b links → IsGood (b ∷ ts) ps
      → (rest : List ℕ) × (transactions_along (b ∷ ts) links ≡ t ∷ rest) × IsGood (t ∷ rest) (pairs_along ps links) × (length ts ≤ length rest)
  along [] b ts ps same good = (ts, ap (λ x. x ∷ ts) same, subst (λ x. IsGood (x ∷ ts) ps) same good, omega arith)
  along (l ∷ links) b ts ps trail good =
      let tie = k.ties b l trail.0 trail.1 in
      let pair = tie.1 in
      let more = along links l.from (b ∷ ts) (l.pair ∷ ps) trail.2 (longer l.from b l.pair ts ps (tie.0, pair.0, pair.1, pair.2) pair good) in
      let bound = more.3 in
      (more.0, more.1, more.2, omega arith)

  pub shown : (s : ℕ) (p : ConflictingPair) (links : List Link) → s ≢ t → ArePairNumbers now s t p → IsTrail o.live o.into t s links
      → IsShownCycle now f.number (transactions_along (s ∷ []) links) (pairs_along (p ∷ []) links)
  shown s p [] other pair same = absurd (other same)
  shown s p (l ∷ links) other pair trail =
      let tie = k.ties s l trail.0 trail.1 in
      let last : IsGood (s ∷ []) (p ∷ []) = ((other, pair.0, pair.1, pair.2), pair, (tt, tt)) in
      let whole = along links l.from (s ∷ []) (l.pair ∷ p ∷ []) trail.2 (longer l.from s l.pair [] (p ∷ []) (tie.0, tie.1.0, tie.1.1, tie.1.2) tie.1 last) in
      let bound = whole.3 in
      let good = whole.2 in
      subst (λ ts. IsShownCycle now f.number ts (pairs_along (l.pair ∷ p ∷ []) links)) (sym whole.1) (
        (omega arith, pairs_distinct (t ∷ whole.0) (pairs_mapped Lower Differ (t ∷ whole.0) (λ x y _ _ less. ne_eqb x y (λ e. let same = ap rank e in omega arith)) good.2), good.0),
        good.1,
        (f, whole.0, in_right f events (f ∷ []) (inl refl), refl, refl),
      )

  pub first : f.number ≡ length events + 1 → (ts : List ℕ) → IsCycle now ts → (take f.number now ≡ now) × IsFirstAt now f.number
  first numbered ts c = (all, ((ts, subst (λ es. IsCycle es ts) (sym all) c), before))
    where
      long : length (events ++ f ∷ []) ≡ length events + 1
      long = length_push events f

      all : take f.number (events ++ f ∷ []) ≡ events ++ f ∷ []
      all = take_all f.number (events ++ f ∷ []) (let e = long in omega arith)

      before : (m : ℕ) → m < f.number → AreAtomic (take m (events ++ f ∷ []))
      before m less = atomic_within (take m (events ++ f ∷ [])) events (λ e h. taken m events e (subst (IsIn e) (take-append-le m events (f ∷ []) (omega arith)) h)) (kept_atomic events n o k)

-- More events don't change where the first cycle is.
pub first_longer : (events more : List Event) (n : ℕ) → n ≤ length events → IsFirstAt events n → IsFirstAt (events ++ more) n
first_longer events more n fits at = (
  (at.0.0, subst (λ es. IsCycle es at.0.0) (sym (take-append-le n events more fits)) at.0.1),
  λ m less. subst AreAtomic (sym (take-append-le m events more (omega arith))) (at.1 m less),
)
