-- Each step on the table is allowed: some list of events still leads to the words and to all views.
use Rattle.std.proofs.Common.{◌≡◌, ℕ, zero, suc, ◌+◌, ◌-◌, replicate, ◌%◌, ◌^◌, ◌<◌, ◌≤◌, min, List, [], ◌∷◌, ◌++◌, length, set, All, false, refl, sym, ap, ◌∙◌, subst, arith}
use Rattle.std.specs.Prelude.{slice_index, slice_set}
use Rattle.std.proofs.lemmas.Bool.Decides.{nat_tests}
use native.Mathlib.Decide.{dec_le}
use mathlib.Core.Option.{some, none}
use lib.ListN.{get_elem?}
use Rattle.atomic_table.specs.Table.{Me, step, Act, keeps, Valid, homes_after, carried_after, Allows, Splits, Joins, Seen, Final}
use Rattle.campaign_desk.specs.declared.knowledge.Knowledge.{Knowledge}
use Rattle.campaign_desk.specs.declared.knowledge.Terms.{Terms}
use Rattle.campaign_desk.specs.Knowledge.{after_look, after_draw, after_lower, after_bound, IsLeastFor}
use Rattle.campaign_desk.specs.Views.{seats_of, other_seats, first_seat, joined_seats, no_seats, seat_of, one_seat, HoldsOneSeat}
use Rattle.campaign_desk.specs.Facts.{count_of, once_below, draw_count, lowering_count, bound_count}
use Rattle.campaign_desk.specs.Reached.{IsReached, IsReachedTable}
use Rattle.campaign_desk.specs.Steps.{IsLook, IsDraw, IsLower, IsBound}
use Rattle.campaign_desk.proofs.FactLaws.{its_jobs, all_counted, next_most, get_elem-le-sum_by}
use Rattle.campaign_desk.proofs.ReachedLaws.{is_desk, reached_same, look_leads, draw_leads, lower_leads, bound_leads}
use Rattle.campaign_desk.proofs.ViewLaws.{place_of, split_same, join_same, all_in_one}

-- ---- Steps on words

-- the steps of a pass with the seat u
module _ {S : Type 0} (t : Terms) (slots id : ℕ) (u : Knowledge) where
  -- a step that changes the words and the seat so is allowed if some list of events leads there
  abbrev LeadsOn : (ℕ → ℕ) → (ℕ → ℕ) → (ℕ → ℕ → Knowledge) → (ℕ → ℕ → Me S (List Knowledge) → Type 0) → Type 0
  LeadsOn f g change then =
      (next bound : ℕ) (seats : List Knowledge) (p : ℕ) → IsReached t.jobs t.workers next bound seats → get_elem? seats p ≡ some u
      → IsReached t.jobs t.workers (f next) (g bound) (set seats p (change next bound)) × then next bound (one_seat (change next bound))

  -- a step on the next number
  on_next : (f : ℕ → ℕ) (change : ℕ → Knowledge) (then : ℕ → Me S (List Knowledge) → Type 0)
      → LeadsOn f (λ bound. bound) (λ next bound. change next) (λ next bound. then next) → Allows (IsReachedTable t) slots id (one_seat u) 0 f then
  on_next f change then leads s h len at range =
      let p = place_of s.views id u at in
      let l = leads h.0 h.1 (seats_of s.views) p.place h.3 p.at in
      let P : List ℕ → Type 0 = λ ws. (w : List Knowledge) × (a : Act S) × Valid s.homes [] a
      × IsReachedTable t (record { words = slice_set ws 0 (f (slice_index ws 0)); homes = homes_after s.homes [] a; views = slice_set s.views id w })
      × then (slice_index ws 0) (w, carried_after [] a) in
      subst P (sym h.2) (change h.0 ∷ [], keeps, tt, (f h.0, h.1, refl, subst (IsReached t.jobs t.workers (f h.0) h.1) (sym (p.set_at (change h.0))) l.0), l.1)

  -- a step on the bound
  on_bound : (g : ℕ → ℕ) (change : ℕ → Knowledge) (then : ℕ → Me S (List Knowledge) → Type 0)
      → LeadsOn (λ next. next) g (λ next bound. change bound) (λ next bound. then bound) → Allows (IsReachedTable t) slots id (one_seat u) 1 g then
  on_bound g change then leads s h len at range =
      let p = place_of s.views id u at in
      let l = leads h.0 h.1 (seats_of s.views) p.place h.3 p.at in
      let P : List ℕ → Type 0 = λ ws. (w : List Knowledge) × (a : Act S) × Valid s.homes [] a
      × IsReachedTable t (record { words = slice_set ws 1 (g (slice_index ws 1)); homes = homes_after s.homes [] a; views = slice_set s.views id w })
      × then (slice_index ws 1) (w, carried_after [] a) in
      subst P (sym h.2) (change h.1 ∷ [], keeps, tt, (h.0, g h.1, refl, subst (IsReached t.jobs t.workers h.0 (g h.1)) (sym (p.set_at (change h.1))) l.0), l.1)

  abbrev me : Me S (List Knowledge)
  me = one_seat u

  -- the pass has one seat
  same_seat : (w : Knowledge) → me ≡ one_seat w → u ≡ w
  same_seat w e = ap (λ (x : Me S (List Knowledge)). seat_of x.0) e

  look_allows : Allows (IsReachedTable t) slots id me 0 (λ n. n) (IsLook (step slots 0 0 0 none) me)
  look_allows = on_next (λ n. n) (after_look u) (IsLook (step slots 0 0 0 none) me)
      (λ next bound seats p r at. (
        look_leads t.jobs t.workers next bound seats p u r at,
        λ w e. ap (λ (x : Knowledge). one_seat (after_look x next)) (same_seat w e),
      ))

  draw_allows : u.is_done ≡ false → Allows (IsReachedTable t) slots id me 0 (λ n. (n + 1) % 2 ^ 64) (IsDraw (step slots 0 1 0 none) me)
  draw_allows new = on_next (λ n. (n + 1) % 2 ^ 64) (after_draw u) (IsDraw (step slots 0 1 0 none) me)
      (λ next bound seats p r at.
      let d = is_desk t.jobs t.workers next bound seats r in
      let most = next_most t.jobs t.workers next bound seats d in
      let limits = r.0 in
      let no_wrap : next + 1 ≡ (next + 1) % 2 ^ 64 = omega arith in
      let all_below = all_counted (λ y. y < next) u.draws
      (λ x h. below x (draw_count x seats) next t.jobs (d.draws x) (omega (arith, h, get_elem-le-sum_by (λ v. count_of x v.draws) seats p u at))) in (
        subst (λ n. IsReached t.jobs t.workers n bound (set seats p (after_draw u next))) no_wrap (draw_leads t.jobs t.workers next bound seats p u r at new),
        λ w e. (
          ap (λ (x : Knowledge). one_seat (after_draw x next)) (same_seat w e),
          subst (λ (x : Knowledge). All (λ y. y < next) x.draws) (same_seat w e) all_below,
        ),
      ))
    where
      below : (x all next jobs : ℕ) → all ≡ once_below x (min next jobs) → 0 < all → x < next
      below x all next jobs is some_all = grind (arith, nat_tests)

  lower_allows : (k : ℕ) → Allows (IsReachedTable t) slots id me 1 (λ n. min n k) (IsLower (step slots 1 k 0 none) me)
  lower_allows k = on_bound (λ n. min n k) (λ _. after_lower u k) (IsLower (step slots 1 k 0 none) me)
      (λ next bound seats p r at. (
        lower_leads t.jobs t.workers next bound seats p u r at k,
        λ w e. ap (λ (x : Knowledge). one_seat (after_lower x k)) (same_seat w e),
      ))

  bound_allows : Allows (IsReachedTable t) slots id me 1 (λ n. n) (IsBound (step slots 1 0 0 none) me)
  bound_allows = on_bound (λ n. n) (after_bound u) (IsBound (step slots 1 0 0 none) me)
      (λ next bound seats p r at.
      let d = is_desk t.jobs t.workers next bound seats r in
      let jobs = its_jobs t.jobs t.workers next bound seats p u d at in
      let bound_limit = d.bound_limit in
      let lowerings = all_counted (λ y. bound ≤ y) u.lowerings
      (λ x h. least (dec_le bound x) (lowering_count x seats) (d.bound_least x) (omega (arith, h, get_elem-le-sum_by (λ v. count_of x v.lowerings) seats p u at))) in
      let bounds = all_counted (λ y. bound ≤ y) u.bounds
      (λ x h. least (dec_le bound x) (bound_count x seats) (d.bounds_least x) (omega (arith, h, get_elem-le-sum_by (λ v. count_of x v.bounds) seats p u at))) in (
        bound_leads t.jobs t.workers next bound seats p u r at,
        λ w e. (
          ap (λ (x : Knowledge). one_seat (after_bound x bound)) (same_seat w e),
          subst (λ (x : Knowledge). IsLeastFor x bound) (same_seat w e) (omega arith, lowerings, bounds),
        ),
      ))
    where
      least : {x bound : ℕ} → Dec (bound ≤ x) → (all : ℕ) → (x < bound → all ≡ 0) → 0 < all → bound ≤ x
      least (yes le) all none_less some_all = le
      least (no lt) all none_less some_all = absurd (omega (arith, none_less (omega (arith, lt))))

-- the steps of a pass that is known to have one seat
module _ {S : Type 0} (t : Terms) (slots id : ℕ) (m : Me S (List Knowledge)) (is : HoldsOneSeat m) where
  pub one_looks : Allows (IsReachedTable t) slots id m 0 (λ n. n) (IsLook (step slots 0 0 0 none) m)
  one_looks = subst (λ (x : Me S (List Knowledge)). Allows (IsReachedTable t) slots id x 0 (λ n. n) (IsLook (step slots 0 0 0 none) x)) (sym is) (look_allows t slots id (seat_of m.0))

  pub one_draws : (seat_of m.0).is_done ≡ false → Allows (IsReachedTable t) slots id m 0 (λ n. (n + 1) % 2 ^ 64) (IsDraw (step slots 0 1 0 none) m)
  one_draws new = subst (λ (x : Me S (List Knowledge)). Allows (IsReachedTable t) slots id x 0 (λ n. (n + 1) % 2 ^ 64) (IsDraw (step slots 0 1 0 none) x)) (sym is) (draw_allows t slots id (seat_of m.0) new)

  pub one_lowers : (k : ℕ) → Allows (IsReachedTable t) slots id m 1 (λ n. min n k) (IsLower (step slots 1 k 0 none) m)
  one_lowers k = subst (λ (x : Me S (List Knowledge)). Allows (IsReachedTable t) slots id x 1 (λ n. min n k) (IsLower (step slots 1 k 0 none) x)) (sym is) (lower_allows t slots id (seat_of m.0) k)

  pub one_reads : Allows (IsReachedTable t) slots id m 1 (λ n. n) (IsBound (step slots 1 0 0 none) m)
  one_reads = subst (λ (x : Me S (List Knowledge)). Allows (IsReachedTable t) slots id x 1 (λ n. n) (IsBound (step slots 1 0 0 none) x)) (sym is) (bound_allows t slots id (seat_of m.0))

-- ---- The table is split and joined, and closes

-- a pass may take the seats of another one
pub pass_joins : (S : Type 0) (t : Terms) (id other : ℕ) (v w : List Knowledge) → Joins (IsReachedTable {S = S} t) id v other w (joined_seats v w) no_seats
pass_joins S t id other v w s h at apart there =
    let joined = seats_of (set (set s.views id (w ++ v)) other []) in
    (h.0, h.1, h.2, reached_same t.jobs t.workers h.0 h.1 (seats_of s.views) joined (join_same s.views id other v w at there) h.3)

-- a pass may be split that has n seats which know the same
pub pass_splits : (S : Type 0) (t : Terms) (id : ℕ) (m : List Knowledge) (v : Knowledge) (n : ℕ) → 0 < n → m ≡ replicate n v → Splits (IsReachedTable {S = S} t) id m (other_seats m) (first_seat m)
pass_splits S t id m v zero some_left is = absurd (omega arith)
pass_splits S t id m v (suc n) some_left is = subst (λ us. Splits (IsReachedTable {S = S} t) id us (other_seats us) (first_seat us)) (sym is) split
  where
    split : Splits (IsReachedTable {S = S} t) id (v ∷ replicate n v) (replicate n v) (v ∷ [])
    split s h at =
        let parts = seats_of (set s.views id (replicate n v) ++ (v ∷ []) ∷ []) in
        (h.0, h.1, h.2, reached_same t.jobs t.workers h.0 h.1 (seats_of s.views) parts (split_same s.views id v (replicate n v) at) h.3)

-- the words of a table that is closed with a pass of all seats
pub table_closes : (S : Type 0) (t : Terms) (id : ℕ) (v : List Knowledge) (ws : List ℕ) (xs : List S) → length v ≡ t.workers → Final (Seen (IsReachedTable t) id v) ws xs
    → (next : ℕ) × (bound : ℕ) × (ws ≡ next ∷ bound ∷ []) × IsReached t.jobs t.workers next bound v
table_closes S t id v ws xs all f =
    let h = f.1.0 in
    let length_is = (is_desk t.jobs t.workers h.0 h.1 (seats_of f.0.views) h.3).all_seats ∙ sym all in
    (h.0, h.1, sym f.2 ∙ h.2, subst (IsReached t.jobs t.workers h.0 h.1) (all_in_one f.0.views id v f.1.1 length_is) h.3)

-- ---- Seats of a pass

module _ {S : Type 0} (m : Me S (List Knowledge)) (u : Knowledge) (is : m ≡ one_seat u) where
  pub seat_of-one_seat : seat_of m.0 ≡ u
  seat_of-one_seat = ap (λ (x : Me S (List Knowledge)). seat_of x.0) is

  pub holds_one : HoldsOneSeat m
  holds_one = is ∙ ap (λ (x : Knowledge). one_seat x) (sym seat_of-one_seat)

pub other_seats-replicate : (v : Knowledge) (n : ℕ) → 0 < n → other_seats (replicate n v) ≡ replicate (n - 1) v
other_seats-replicate v zero some_left = absurd (omega arith)
other_seats-replicate v (suc n) some_left = let e : n ≡ suc n - 1 = omega arith in ap (λ k. replicate k v) e

pub first_seat-replicate : (v : Knowledge) (n : ℕ) → 0 < n → first_seat (replicate n v) ≡ v ∷ []
first_seat-replicate v zero some_left = absurd (omega arith)
first_seat-replicate v (suc n) some_left = refl

module _ {A : Type 0} (P : A → Type 0) where
  all-cons : (x : A) (xs : List A) → P x → All P xs → All P (x ∷ xs)
  all-cons x xs p all zero d h = p
  all-cons x xs p all (suc k) d h = all k d (omega arith)

  -- what all elements have, the last and the others have
  pub all-push : (xs : List A) (x : A) → All P (xs ++ x ∷ []) → All P xs × P x
  all-push [] x all = ((λ k d h. absurd (omega arith)), all 0 x (omega arith))
  all-push (y ∷ ys) x all =
      let rest = all-push ys x (λ k d h. all (suc k) d (omega arith)) in
      (all-cons y ys (all zero y (omega arith)) rest.0, rest.1)
