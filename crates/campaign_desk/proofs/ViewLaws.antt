-- The seats of all views as one list, after a step, a split and a join.
use Rattle.std.proofs.Common.{◌≡◌, ℕ, zero, suc, ◌+◌, ◌≤◌, List, [], ◌∷◌, ◌++◌, length, set, get_or, cond, ◌==◌, inl, inr, ⊎_elim, refl, sym, ap, ◌∙◌, subst, arith}
use Rattle.std.specs.List.{sum_by}
use Rattle.std.proofs.lemmas.List.Sums.{sum_by-cons, sum_by-append, sum_by_push, sum_by-le, get_or-le-sum_by}
use Rattle.std.proofs.lemmas.List.{append-nil, length-append}
use Rattle.std.proofs.lemmas.Bool.Decides.{nat_tests}
use mathlib.Core.Option.{some, some-ne-none, some-injective}
use lib.ListN.{get_elem?}
use Rattle.campaign_desk.specs.declared.knowledge.Knowledge.{Knowledge}
use Rattle.campaign_desk.specs.Views.{seats_of}
use Rattle.campaign_desk.specs.Facts.{count_of, IsDesk}
use Rattle.campaign_desk.specs.Reached.{SameSeats}
use Rattle.campaign_desk.proofs.FactLaws.{one_if_done, sum_by-set_at}

-- a view of one seat is a place among the seats of all views
pub record IsPlace (views : List (List Knowledge)) (id : ℕ) (v : Knowledge) : Type 0 where
  pub place : ℕ
  pub at : get_elem? (seats_of views) place ≡ some v
  pub set_at : (w : Knowledge) → seats_of (set views id (w ∷ [])) ≡ set (seats_of views) place w

pub place_of : (views : List (List Knowledge)) (id : ℕ) (v : Knowledge) → get_elem? views id ≡ some (v ∷ []) → IsPlace views id v
place_of [] id v e = absurd (some-ne-none (v ∷ []) (sym e))
place_of (x ∷ xs) zero v e =
    let same : x ≡ v ∷ [] = some-injective x (v ∷ []) e in
    subst (λ (y : List Knowledge). IsPlace (y ∷ xs) zero v) (sym same) (record { place = 0; at = refl; set_at = λ w. refl })
place_of (x ∷ xs) (suc id) v e =
    let p = place_of xs id v e in
    record {
      place = length x + p.place;
      at = get_after x (seats_of xs) p.place v p.at;
      set_at = λ w. ap (λ ys. x ++ ys) (p.set_at w) ∙ set_after x (seats_of xs) p.place w;
    }
  where
    get_after : (xs ys : List Knowledge) (i : ℕ) (v : Knowledge) → get_elem? ys i ≡ some v → get_elem? (xs ++ ys) (length xs + i) ≡ some v
    get_after [] ys i v e = let k : i ≡ 0 + i = omega arith in subst (λ k. get_elem? ys k ≡ some v) k e
    get_after (x ∷ xs) ys i v e =
        let k : suc (length xs + i) ≡ suc (length xs) + i = omega arith in
        subst (λ k. get_elem? (x ∷ (xs ++ ys)) k ≡ some v) k (get_after xs ys i v e)

    set_after : (xs ys : List Knowledge) (i : ℕ) (w : Knowledge) → xs ++ set ys i w ≡ set (xs ++ ys) (length xs + i) w
    set_after [] ys i w = let k : i ≡ 0 + i = omega arith in ap (λ k. set ys k w) k
    set_after (x ∷ xs) ys i w =
        let k : suc (length xs + i) ≡ suc (length xs) + i = omega arith in
        ap (λ zs. x ∷ zs) (set_after xs ys i w) ∙ ap (λ k. set (x ∷ (xs ++ ys)) k w) k

-- the sum over all seats, view by view
sum_by-seats_of : (f : Knowledge → ℕ) (views : List (List Knowledge)) → sum_by f (seats_of views) ≡ sum_by (λ v. sum_by f v) views
sum_by-seats_of f [] = refl
sum_by-seats_of f (v ∷ vs) =
    omega (arith, sum_by-seats_of f vs, sum_by-append f v (seats_of vs), sum_by-cons (λ v. sum_by f v) v vs)

-- a sum of ones is the length
sum_by-one : (vs : List Knowledge) → sum_by (λ _. 1) vs ≡ length vs
sum_by-one [] = refl
sum_by-one (v ∷ vs) = omega (arith, sum_by-one vs, sum_by-cons (λ (_ : Knowledge). 1) v vs)

-- the facts don't depend on the order of the seats
pub desk_same : (jobs workers next bound : ℕ) (vs ws : List Knowledge) → SameSeats vs ws → IsDesk jobs workers next bound vs → IsDesk jobs workers next bound ws
desk_same jobs workers next bound vs ws same d =
    record {
      all_seats = omega (arith, same (λ _. 1), sum_by-one vs, sum_by-one ws, d.all_seats);
      same_jobs = λ k u h. ours (get_or ws k u) (omega (arith, get_or-le-sum_by other ws k u h, same other, no_other));
      draws = λ x. sym (same (λ v. count_of x v.draws)) ∙ d.draws x;
      next_limit = omega (arith, d.next_limit, same one_if_done);
      done = λ h. d.done (omega (arith, h, same one_if_done));
      bound_limit = d.bound_limit;
      bound_is = ⊎_elim inl (λ h. inr (omega (arith, h, same (λ v. count_of bound v.lowerings)))) d.bound_is;
      bound_least = λ x h. sym (same (λ v. count_of x v.lowerings)) ∙ d.bound_least x h;
      bounds_are = λ x h. ⊎_elim inl (λ l. inr (omega (arith, l, same (λ v. count_of x v.lowerings)))) (d.bounds_are x (omega (arith, h, same (λ v. count_of x v.bounds))));
      bounds_least = λ x h. sym (same (λ v. count_of x v.bounds)) ∙ d.bounds_least x h;
    }
  where
    other : Knowledge → ℕ
    other v = cond (v.jobs == jobs) 0 1

    ours : (v : Knowledge) → other v ≤ 0 → v.jobs ≡ jobs
    ours v h = grind (arith, nat_tests)

    not_other : (v : Knowledge) → v.jobs ≡ jobs → other v ≤ 0
    not_other v h = grind (arith, nat_tests)

    no_other : sum_by other vs ≤ 0
    no_other = omega (arith, sum_by-le other 0 vs (λ k u h. not_other (get_or vs k u) (d.same_jobs k u h)))

-- a split keeps the seats
pub split_same : (views : List (List Knowledge)) (id : ℕ) (v : Knowledge) (vs : List Knowledge) → get_elem? views id ≡ some (v ∷ vs) → SameSeats (seats_of views) (seats_of (set views id vs ++ (v ∷ []) ∷ []))
split_same views id v vs at f =
    let F : List Knowledge → ℕ = λ us. sum_by f us in
    let a = sum_by-seats_of f views in
    let b = sum_by-seats_of f (set views id vs ++ (v ∷ []) ∷ []) in
    let c = sum_by_push F (set views id vs) (v ∷ []) in
    let e = sum_by-set_at F views id (v ∷ vs) vs at in
    let g = sum_by-cons f v vs in
    let h = sum_by-cons f v [] in
    omega arith

-- a join keeps the seats
pub join_same : (views : List (List Knowledge)) (id other : ℕ) (v w : List Knowledge) → get_elem? views id ≡ some v → get_elem? (set views id (w ++ v)) other ≡ some w → SameSeats (seats_of views) (seats_of (set (set views id (w ++ v)) other []))
join_same views id other v w at there f =
    let F : List Knowledge → ℕ = λ us. sum_by f us in
    let a = sum_by-seats_of f views in
    let b = sum_by-seats_of f (set (set views id (w ++ v)) other []) in
    let c = sum_by-set_at F views id v (w ++ v) at in
    let e = sum_by-set_at F (set views id (w ++ v)) other w [] there in
    let g = sum_by-append f w v in
    omega arith

no_length : (vs : List Knowledge) → length vs ≡ 0 → vs ≡ []
no_length [] e = refl
no_length (v ∷ vs) e = absurd (omega (arith, e))

-- a view with as many seats as there are has all seats
pub all_in_one : (views : List (List Knowledge)) (id : ℕ) (v : List Knowledge) → get_elem? views id ≡ some v → length (seats_of views) ≡ length v → seats_of views ≡ v
all_in_one [] id v e len = absurd (some-ne-none v (sym e))
all_in_one (x ∷ xs) zero v e len =
    let same : x ≡ v = some-injective x v e in
    let n : length (seats_of xs) ≡ 0 = omega (arith, len, length-append x (seats_of xs), ap length same) in
    ap (λ us. x ++ us) (no_length (seats_of xs) n) ∙ append-nil x ∙ same
all_in_one (x ∷ xs) (suc id) v e len =
    let le : length v ≤ length (seats_of xs) = at_most xs id v e in
    let n : length x ≡ 0 = omega (arith, len, length-append x (seats_of xs), le) in
    ap (λ us. us ++ seats_of xs) (no_length x n) ∙ all_in_one xs id v e (omega (arith, len, length-append x (seats_of xs)))
  where
    at_most : (vs : List (List Knowledge)) (i : ℕ) (u : List Knowledge) → get_elem? vs i ≡ some u → length u ≤ length (seats_of vs)
    at_most [] i u e = absurd (some-ne-none u (sym e))
    at_most (y ∷ ys) zero u e = omega (arith, length-append y (seats_of ys), ap length (some-injective y u e))
    at_most (y ∷ ys) (suc i) u e = omega (arith, length-append y (seats_of ys), at_most ys i u e)
