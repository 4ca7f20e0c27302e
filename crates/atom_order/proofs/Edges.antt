-- Edges of a trace with one more event, and of a part of a trace.
use Rattle.std.proofs.Common.{◌≡◌, ◌≢◌, ℕ, ◌<◌, true, ◌⊎◌, inl, inr, List, [], ◌∷◌, ◌++◌, refl, sym, ap, ◌∙◌, arith}
use Rattle.velodrome.specs.Conflicts.{conflict}
use Rattle.velodrome.specs.Cycles.{IsIn, IsPair, IsEdge, AreEdgesRound, IsCycle, AreAtomic}
use Rattle.velodrome.specs.Transactions.{Event}
use Rattle.atom_order.proofs.Members.{in_left, in_right, in_cases}

abbrev pub IsWithin : List Event → List Event → Type 0
IsWithin xs ys = (e : Event) → IsIn e xs → IsIn e ys

pub pair_within : (xs ys : List Event) (a b : ℕ) (e f : Event) → IsWithin xs ys → IsPair xs a b e f → IsPair ys a b e f
pair_within xs ys a b e f w p = (w e p.0, w f p.1, p.2, p.3, p.4)

pub edge_within : (xs ys : List Event) (a b : ℕ) → IsWithin xs ys → IsEdge xs a b → IsEdge ys a b
edge_within xs ys a b w d = (d.0, d.1, d.2, pair_within xs ys a b d.1 d.2 w d.3)

pub round_within : (xs ys : List Event) (first : ℕ) (ts : List ℕ) → IsWithin xs ys → AreEdgesRound xs first ts → AreEdgesRound ys first ts
round_within xs ys first [] w r = r
round_within xs ys first (a ∷ []) w r = edge_within xs ys a first w r
round_within xs ys first (a ∷ b ∷ ts) w r = (edge_within xs ys a b w r.0, round_within xs ys first (b ∷ ts) w r.1)

pub cycle_within : (xs ys : List Event) (ts : List ℕ) → IsWithin xs ys → IsCycle xs ts → IsCycle ys ts
cycle_within xs ys [] w c = c
cycle_within xs ys (a ∷ ts) w c = (c.0, c.1, round_within xs ys a (a ∷ ts) w c.2)

pub atomic_within : (xs ys : List Event) → IsWithin xs ys → AreAtomic ys → AreAtomic xs
atomic_within xs ys w atomic ts c = atomic ts (cycle_within xs ys ts w c)

-- An event of a is earlier than the last one and conflicts with it.
abbrev pub IsTied : List Event → Event → ℕ → Type 0
IsTied events f a = (e : Event) × IsIn e events × (e.transaction ≡ a) × (conflict e.item f.item ≡ true)

module _ (events : List Event) (f : Event) (behind : (e : Event) → IsIn e events → e.number < f.number) where
  pub edge_more : (a b : ℕ) → IsEdge (events ++ f ∷ []) a b → IsEdge events a b ⊎ ((a ≢ b) × (b ≡ f.transaction) × IsTied events f a)
  edge_more a b d = first (in_cases d.1 events (f ∷ []) d.3.0) (in_cases d.2 events (f ∷ []) d.3.1)
    where
      first : IsIn d.1 events ⊎ IsIn d.1 (f ∷ []) → IsIn d.2 events ⊎ IsIn d.2 (f ∷ []) → IsEdge events a b ⊎ ((a ≢ b) × (b ≡ f.transaction) × IsTied events f a)
      first (inl e) (inl g) = inl (d.0, d.1, d.2, (e, g, d.3.2, d.3.3, d.3.4))
      first (inl e) (inr (inl g)) =
          inr (d.0, sym d.3.3 ∙ ap (λ (h : Event). h.transaction) g, (d.1, e, d.3.2, ap (λ (h : Event). conflict d.1.item h.item) (sym g) ∙ d.3.4.1))
      first (inl e) (inr (inr g)) = absurd g
      first (inr (inl e)) (inl g) = let more = behind d.2 g in let now = d.3.4.0 in let same = ap (λ (h : Event). h.number) e in absurd (omega arith)
      first (inr (inl e)) (inr (inl g)) =
          let now = d.3.4.0 in let one = ap (λ (h : Event). h.number) e in let two = ap (λ (h : Event). h.number) g in absurd (omega arith)
      first (inr (inl e)) (inr (inr g)) = absurd g
      first (inr (inr e)) g = absurd e

  pub edge_new : (a : ℕ) → a ≢ f.transaction → IsTied events f a → IsEdge (events ++ f ∷ []) a f.transaction
  edge_new a other t =
      (other, t.0, f, (in_left t.0 events (f ∷ []) t.1, in_right f events (f ∷ []) (inl refl), t.2, refl, (behind t.0 t.1, t.3)))

  pub edge_old : (a b : ℕ) → IsEdge events a b → IsEdge (events ++ f ∷ []) a b
  edge_old a b = edge_within events (events ++ f ∷ []) a b (λ e h. in_left e events (f ∷ []) h)
