-- The best of some links, after one more.
use Rattle.std.proofs.Common.{◌≡◌, ℕ, ◌≤◌, inl, inr, List, [], ◌∷◌, ◌++◌, Option, Some, None, refl, sym, subst, ◌∙◌, arith}
use Rattle.std.proofs.lemmas.Option.{none-some, same_Some}
use Rattle.velodrome.specs.Cycles.{IsIn}
use Rattle.atom_order.specs.declared.distances.Near.{Near}
use Rattle.atom_order.specs.declared.link.Link.{Link}
use Rattle.atom_order.specs.Distances.{distance_in, IsNearest, AreFar, IsBest}
use Rattle.atom_order.proofs.Members.{in_left, in_right, in_cases}

module _ (links : List Link) (link : Link) (entries : List (ℕ × ℕ)) where
  abbrev all : List Link
  all = links ++ link ∷ []

  last_or : (l : Link) → IsIn l all → (P : Link → Type 0) → (IsIn l links → P l) → P link → P l
  last_or l h P front last = elim (in_cases l links (link ∷ []) h) [
    | inl g ↦ front g
    | inr g ↦ elim g [ inl same ↦ subst P (sym same) last | inr none ↦ absurd none ]
  ]

  pub far_more : distance_in entries link.from ≡ None → AreFar links entries → AreFar all entries
  far_more none far l h = last_or l h (λ k. distance_in entries k.from ≡ None) (far l) none

  pub near_stays : (near : Near) → ((n : ℕ) → distance_in entries link.from ≡ Some n → near.distance ≤ n) → IsNearest links entries near → IsNearest all entries near
  near_stays near low nearest = record {
    among = in_left near.link links (link ∷ []) nearest.among;
    at = nearest.at;
    least = λ l n h at. last_or l h (λ k. distance_in entries k.from ≡ Some n → near.distance ≤ n) (λ g. nearest.least l n g) (low n) at;
  }

  pub near_now : (n : ℕ) → distance_in entries link.from ≡ Some n → ((l : Link) (m : ℕ) → IsIn l links → distance_in entries l.from ≡ Some m → n ≤ m)
      → IsNearest all entries (record { link = link; distance = n })
  near_now n at low = record {
    among = in_right link links (link ∷ []) (inl refl);
    at = at;
    least = λ l m h is. last_or l h (λ k. distance_in entries k.from ≡ Some m → n ≤ m) (λ g. low l m g) (λ own. let same = same_Some n m (sym at ∙ own) in omega arith) is;
  }

  -- No distance is stored for the last link's transaction.
  pub best_stays : (best : Option Near) → distance_in entries link.from ≡ None → IsBest links entries best → IsBest all entries best
  best_stays None none far = far_more none far
  best_stays (Some near) none nearest = near_stays near (λ n at. absurd (none-some n (sym none ∙ at))) nearest

  -- The last link's distance is the first one.
  pub best_first : (n : ℕ) → distance_in entries link.from ≡ Some n → AreFar links entries → IsNearest all entries (record { link = link; distance = n })
  best_first n at far = near_now n at (λ l m h is. absurd (none-some m (sym (far l h) ∙ is)))

  -- The last link's distance isn't less.
  pub best_before : (before : Near) (n : ℕ) → distance_in entries link.from ≡ Some n → before.distance ≤ n → IsNearest links entries before → IsNearest all entries before
  best_before before n at low nearest = near_stays before (λ m is. let same = same_Some n m (sym at ∙ is) in omega arith) nearest

  -- The last link's distance is less.
  pub best_now : (before : Near) (n : ℕ) → distance_in entries link.from ≡ Some n → n ≤ before.distance → IsNearest links entries before → IsNearest all entries (record { link = link; distance = n })
  best_now before n at low nearest = near_now n at (λ l m h is. let high = nearest.least l m h is in omega arith)
