-- Each kind of step is one more event, after those of a list.
use Rattle.std.proofs.Common.{◌≡◌, ℕ, zero, suc, ◌+◌, ◌<◌, ◌==◌, min, List, [], ◌∷◌, ◌++◌, set, Bool, true, false, ◌&&◌, cond, eq-eqb, refl, sym, ap, ◌∙◌, subst, arith}
use Rattle.std.specs.List.{sum_by}
use Rattle.std.proofs.lemmas.List.Sums.{sum_by-cons, fold_push}
use Rattle.std.proofs.lemmas.Bool.{and_parts, and_from, eqb-true}
use mathlib.Core.Option.{some}
use lib.ListN.{get_elem?}
use Rattle.campaign_desk.specs.declared.knowledge.Knowledge.{Knowledge}
use Rattle.campaign_desk.specs.Knowledge.{after_look, after_draw, after_lower, after_bound}
use Rattle.campaign_desk.specs.Facts.{IsDesk}
use Rattle.campaign_desk.specs.Events.{Event, Look, Draw, Lower, Bound, DeskState, first_state, seat_number, effect, after, after_all}
use Rattle.campaign_desk.specs.Reached.{SameSeats, IsReached}
use Rattle.campaign_desk.proofs.FactLaws.{sum_by-set_at, get_elem-le-sum_by}
use Rattle.campaign_desk.proofs.EventLaws.{each_leads_to_desk}
use Rattle.campaign_desk.proofs.ViewLaws.{desk_same}

-- ---- Tests of what two seats know for equality

abbrev same_list : List ℕ → List ℕ → Bool
same_list [] [] = true
same_list [] (y ∷ ys) = false
same_list (x ∷ xs) [] = false
same_list (x ∷ xs) (y ∷ ys) = (x == y) && same_list xs ys

same_list-refl : (xs : List ℕ) → same_list xs xs ≡ true
same_list-refl [] = refl
same_list-refl (x ∷ xs) = and_from (x == x) (same_list xs xs) (eq-eqb x x refl) (same_list-refl xs)

same_list-true : (xs ys : List ℕ) → same_list xs ys ≡ true → xs ≡ ys
same_list-true [] [] e = refl
same_list-true [] (y ∷ ys) e = absurd (cc)
same_list-true (x ∷ xs) [] e = absurd (cc)
same_list-true (x ∷ xs) (y ∷ ys) e =
    let p = and_parts (x == y) (same_list xs ys) e in
    λ i. eqb-true x y p.0 i ∷ same_list-true xs ys p.1 i

abbrev same_bool : Bool → Bool → Bool
same_bool true true = true
same_bool false false = true
same_bool _ _ = false

same_bool-refl : (a : Bool) → same_bool a a ≡ true
same_bool-refl true = refl
same_bool-refl false = refl

same_bool-true : (a b : Bool) → same_bool a b ≡ true → a ≡ b
same_bool-true true true e = refl
same_bool-true true false e = absurd (cc)
same_bool-true false true e = absurd (cc)
same_bool-true false false e = refl

abbrev same_seat : Knowledge → Knowledge → Bool
same_seat v u =
    (v.jobs == u.jobs) && (same_list v.draws u.draws && (same_list v.lowerings u.lowerings && (same_list v.bounds u.bounds && same_bool v.is_done u.is_done)))

same_seat-refl : (v : Knowledge) → same_seat v v ≡ true
same_seat-refl v =
    and_from _ _ (eq-eqb v.jobs v.jobs refl) (and_from _ _ (same_list-refl v.draws) (and_from _ _ (same_list-refl v.lowerings) (and_from _ _ (same_list-refl v.bounds) (same_bool-refl v.is_done))))

same_seat-true : (v u : Knowledge) → same_seat v u ≡ true → v ≡ u
same_seat-true v u e =
    let a = and_parts _ _ e in
    let b = and_parts _ _ a.1 in
    let c = and_parts _ _ b.1 in
    let d = and_parts _ _ c.1 in
    λ i.
    record {
      jobs = eqb-true v.jobs u.jobs a.0 i;
      draws = same_list-true v.draws u.draws b.0 i;
      lowerings = same_list-true v.lowerings u.lowerings c.0 i;
      bounds = same_list-true v.bounds u.bounds d.0 i;
      is_done = same_bool-true v.is_done u.is_done d.1 i;
    }

-- 1 for seats that know the same
abbrev one_if_same : Knowledge → Knowledge → ℕ
one_if_same u v = cond (same_seat v u) 1 0

-- ---- The same seats in another order

-- if a sum isn't 0, some term isn't
place_in : (f : Knowledge → ℕ) (xs : List Knowledge) → 0 < sum_by f xs → (i : ℕ) × (v : Knowledge) × (get_elem? xs i ≡ some v) × (0 < f v)
place_in f [] h = absurd (omega arith)
place_in f (x ∷ xs) h = by (f x) refl (λ k. place_in f xs k)
  where
    by : (n : ℕ) → f x ≡ n → (0 < sum_by f xs → (i : ℕ) × (v : Knowledge) × (get_elem? xs i ≡ some v) × (0 < f v)) → (i : ℕ) × (v : Knowledge) × (get_elem? (x ∷ xs) i ≡ some v) × (0 < f v)
    by zero e rest = let r = rest (omega (arith, h, sum_by-cons f x xs)) in (suc r.0, r.1, r.2, r.3)
    by (suc n) e rest = (0, x, refl, omega arith)

-- a seat of one list has a place in the other
place_of_seat : (vs ws : List Knowledge) (p : ℕ) (u : Knowledge) → SameSeats vs ws → get_elem? ws p ≡ some u → (w : ℕ) × (get_elem? vs w ≡ some u)
place_of_seat vs ws p u same at =
    let one : one_if_same u u ≡ 1 = ap {B = ℕ} (λ (b : Bool). cond b 1 0) (same_seat-refl u) in
    let r = place_in (one_if_same u) vs (omega (arith, one, get_elem-le-sum_by (one_if_same u) ws p u at, same (one_if_same u))) in
    (r.0, subst (λ v. get_elem? vs r.0 ≡ some v) (same_seat-true r.1 u (yes_of (same_seat r.1 u) r.3)) r.2)
  where
    yes_of : (b : Bool) → 0 < cond b 1 0 → b ≡ true
    yes_of true h = refl
    yes_of false h = absurd (omega arith)

-- the lists still have the same seats after one seat changed in both
same_set : (vs ws : List Knowledge) (w p : ℕ) (u x : Knowledge) → SameSeats vs ws → get_elem? vs w ≡ some u → get_elem? ws p ≡ some u → SameSeats (set vs w x) (set ws p x)
same_set vs ws w p u x same at here f = omega (arith, sum_by-set_at f vs w u x at, sum_by-set_at f ws p u x here, same f)

-- ---- What is reached

-- the facts hold of every state that is reached
pub is_desk : (jobs workers next bound : ℕ) (seats : List Knowledge) → IsReached jobs workers next bound seats → IsDesk jobs workers next bound seats
is_desk jobs workers next bound seats r =
    let es = r.1.0 in
    let l = r.1.1 in
    let s = after_all (first_state jobs workers) es in
    let d = desk_same jobs workers s.next s.bound s.seats seats l.2 (each_leads_to_desk jobs workers es) in
    subst (λ (x : ℕ × ℕ). IsDesk jobs workers x.0 x.1 seats) (λ i. (l.0 i, l.1 i)) d

-- the order of the seats doesn't matter
pub reached_same : (jobs workers next bound : ℕ) (vs ws : List Knowledge) → SameSeats vs ws → IsReached jobs workers next bound vs → IsReached jobs workers next bound ws
reached_same jobs workers next bound vs ws same r =
    let l = r.1.1 in
    (r.0, (r.1.0, (l.0, l.1, λ f. l.2 f ∙ same f)))

-- one more event, of the seat at p
module _ (jobs workers next bound : ℕ) (seats : List Knowledge) (p : ℕ) (u : Knowledge) (r : IsReached jobs workers next bound seats) (at : get_elem? seats p ≡ some u) where
  abbrev state : DeskState
  state = after_all (first_state jobs workers) r.1.0

  -- the event continues the list, whichever number its seat has, if it changes the words and its seat so
  one_more : (e : ℕ → Event) (next' bound' : ℕ) (x : Knowledge) → ((w : ℕ) → seat_number (e w) ≡ w)
      → ((w : ℕ) → effect state (e w) (some u) ≡ record { next = next'; bound = bound'; seats = set state.seats w x })
      → IsReached jobs workers next' bound' (set seats p x)
  one_more e next' bound' x of does =
      let l = r.1.1 in
      let there = place_of_seat state.seats seats p u l.2 at in
      let w = there.0 in
      let now : after state (e w) ≡ effect state (e w) (some u) = ap (effect state (e w)) (ap (get_elem? state.seats) (of w) ∙ there.1) in
      let run = fold_push after (first_state jobs workers) r.1.0 (e w) ∙ now ∙ does w in
      let Leads : DeskState → Type 0 = λ s. (s.next ≡ next') × (s.bound ≡ bound') × SameSeats s.seats (set seats p x) in
      (r.0, (r.1.0 ++ e w ∷ [], subst Leads (sym run) (refl, refl, same_set state.seats seats w p u x l.2 there.1 at)))

  pub look_leads : IsReached jobs workers next bound (set seats p (after_look u next))
  look_leads =
      let l = r.1.1 in
      one_more Look next bound (after_look u next) (λ w. refl)
      (λ w i. record { next = l.0 i; bound = l.1 i; seats = set state.seats w (after_look u (l.0 i)) })

  pub draw_leads : u.is_done ≡ false → IsReached jobs workers (next + 1) bound (set seats p (after_draw u next))
  draw_leads new =
      let l = r.1.1 in
      one_more Draw (next + 1) bound (after_draw u next) (λ w. refl)
      (λ w. ap (λ (b : Bool). cond b state (record state { next = state.next + 1; seats = set state.seats w (after_draw u state.next) })) new
      ∙ (λ i. record { next = l.0 i + 1; bound = l.1 i; seats = set state.seats w (after_draw u (l.0 i)) }))

  pub lower_leads : (k : ℕ) → IsReached jobs workers next (min bound k) (set seats p (after_lower u k))
  lower_leads k =
      let l = r.1.1 in
      one_more (λ w. Lower w k) next (min bound k) (after_lower u k) (λ w. refl)
      (λ w i. record { next = l.0 i; bound = min (l.1 i) k; seats = set state.seats w (after_lower u k) })

  pub bound_leads : IsReached jobs workers next bound (set seats p (after_bound u bound))
  bound_leads =
      let l = r.1.1 in
      one_more Bound next bound (after_bound u bound) (λ w. refl)
      (λ w i. record { next = l.0 i; bound = l.1 i; seats = set state.seats w (after_bound u (l.1 i)) })
