-- Each kind of step keeps the words and the seats' lists consistent with each other.
use Rattle.std.proofs.Common.{◌≡◌, ◌≢◌, ◌⊎◌, ℕ, zero, suc, ◌+◌, ◌<◌, ◌≤◌, ◌==◌, min, List, [], ◌∷◌, ◌++◌, length, set, All, Bool, true, false, cond, nat_lt, eq-eqb, get_or, refl, sym, ap, subst, inl, inr, ⊎_elim, arith}
use Rattle.std.specs.List.{sum_by}
use Rattle.std.proofs.lemmas.List.Sums.{sum_by-cons, sum_by_push, get_or-le-sum_by, count_by-le-length}
use Rattle.std.proofs.lemmas.List.Elements.{All-set}
use Rattle.std.proofs.lemmas.Bool.{ltb-true, ltb-false}
use Rattle.std.proofs.lemmas.Bool.Decides.{nat_tests}
use Rattle.std.proofs.Math.ListN.{length-set}
use Rattle.atomic_table.proofs.Lists.{set_again}
use mathlib.Core.Option.{some, some-ne-none, some-injective}
use native.Mathlib.Decide.{dec_le, ℕ_discrete}
use lib.ListN.{get_elem?}
use Rattle.campaign_desk.specs.declared.knowledge.Knowledge.{Knowledge}
use Rattle.campaign_desk.specs.Knowledge.{after_done, after_look, after_draw, after_lower, after_bound}
use Rattle.campaign_desk.specs.Facts.{count_of, once_below, draw_count, lowering_count, bound_count, done_count, IsDesk}

-- 1 for a seat that is done
abbrev pub one_if_done : Knowledge → ℕ
one_if_done v = cond v.is_done 1 0

module _ {A : Type 0} (f : A → ℕ) where
  -- the sum after a change of one element
  pub sum_by-set_at : (xs : List A) (i : ℕ) (v w : A) → get_elem? xs i ≡ some v → sum_by f (set xs i w) + f v ≡ sum_by f xs + f w
  sum_by-set_at [] i v w e = absurd (some-ne-none v (sym e))
  sum_by-set_at (x ∷ xs) zero v w e =
      let same = ap f (some-injective x v e) in
      omega (arith, sum_by-cons f x xs, sum_by-cons f w xs)
  sum_by-set_at (x ∷ xs) (suc i) v w e = omega (arith, sum_by-set_at xs i v w e, sum_by-cons f x xs, sum_by-cons f x (set xs i w))

  -- one element's part of the sum
  pub get_elem-le-sum_by : (xs : List A) (i : ℕ) (v : A) → get_elem? xs i ≡ some v → f v ≤ sum_by f xs
  get_elem-le-sum_by [] i v e = absurd (some-ne-none v (sym e))
  get_elem-le-sum_by (x ∷ xs) zero v e =
      let same = ap f (some-injective x v e) in
      omega (arith, sum_by-cons f x xs)
  get_elem-le-sum_by (x ∷ xs) (suc i) v e = omega (arith, get_elem-le-sum_by xs i v e, sum_by-cons f x xs)

-- what all elements have, one element has
all_get : {A : Type 0} (P : A → Type 0) (xs : List A) (i : ℕ) (v : A) → All P xs → get_elem? xs i ≡ some v → P v
all_get P [] i v all e = absurd (some-ne-none v (sym e))
all_get P (x ∷ xs) zero v all e = subst P (some-injective x v e) (all zero v (omega arith))
all_get P (x ∷ xs) (suc i) v all e = all_get P xs i v (λ k d h. all (suc k) d (omega arith)) e

-- a number is counted once more in a list with one number more
count_of-push : (x y : ℕ) (xs : List ℕ) → count_of x (xs ++ y ∷ []) ≡ count_of x xs + cond (y == x) 1 0
count_of-push x y xs = sum_by_push (λ z. cond (z == x) 1 0) xs y

module _ (jobs workers next bound : ℕ) (seats : List Knowledge) (id : ℕ) (v : Knowledge) (d : IsDesk jobs workers next bound seats) (at : get_elem? seats id ≡ some v) where
  pub its_jobs : v.jobs ≡ jobs
  its_jobs = all_get (λ (u : Knowledge). u.jobs ≡ jobs) seats id v d.same_jobs at

  -- what is counted after the seat's knowledge becomes w
  module _ (w : Knowledge) where
    abbrev after_set : List Knowledge
    after_set = set seats id w

    draw_count-set : (x : ℕ) → draw_count x after_set + count_of x v.draws ≡ draw_count x seats + count_of x w.draws
    draw_count-set x = sum_by-set_at (λ u. count_of x u.draws) seats id v w at

    lowering_count-set : (x : ℕ) → lowering_count x after_set + count_of x v.lowerings ≡ lowering_count x seats + count_of x w.lowerings
    lowering_count-set x = sum_by-set_at (λ u. count_of x u.lowerings) seats id v w at

    bound_count-set : (x : ℕ) → bound_count x after_set + count_of x v.bounds ≡ bound_count x seats + count_of x w.bounds
    bound_count-set x = sum_by-set_at (λ u. count_of x u.bounds) seats id v w at

    done_count-set : done_count after_set + one_if_done v ≡ done_count seats + one_if_done w
    done_count-set = sum_by-set_at one_if_done seats id v w at

    all_seats-set : length after_set ≡ workers
    all_seats-set = omega (arith, d.all_seats, length-set {A = Knowledge})

    same_jobs-set : w.jobs ≡ jobs → All (λ (u : Knowledge). u.jobs ≡ jobs) after_set
    same_jobs-set e = All-set (λ (u : Knowledge). u.jobs ≡ jobs) seats id w e d.same_jobs

  -- the seat learns that no job is left
  done_keeps : jobs ≤ next → IsDesk jobs workers next bound (set seats id (after_done v))
  done_keeps none_left =
      let w = after_done v in
      record {
        all_seats = all_seats-set w;
        same_jobs = same_jobs-set w its_jobs;
        draws = λ x. omega (arith, d.draws x, draw_count-set w x);
        next_limit = omega (arith, d.next_limit, done_count-set w, one_at_most v.is_done);
        done = λ _. none_left;
        bound_limit = d.bound_limit;
        bound_is = ⊎_elim inl (λ h. inr (omega (arith, h, lowering_count-set w bound))) d.bound_is;
        bound_least = λ x h. omega (arith, d.bound_least x h, lowering_count-set w x);
        bounds_are = λ x h. ⊎_elim inl (λ k. inr (omega (arith, k, lowering_count-set w x))) (d.bounds_are x (omega (arith, h, bound_count-set w x)));
        bounds_least = λ x h. omega (arith, d.bounds_least x h, bound_count-set w x);
      }
    where
      one_at_most : (b : Bool) → cond b 1 0 ≤ 1
      one_at_most true = omega arith
      one_at_most false = omega arith

  -- the seat draws a job
  job_keeps : next < jobs → IsDesk jobs workers (next + 1) bound (set seats id (record v { draws = v.draws ++ next ∷ [] }))
  job_keeps left =
      let w = record v { draws = v.draws ++ next ∷ [] } in
      record {
        all_seats = all_seats-set w;
        same_jobs = same_jobs-set w its_jobs;
        draws = λ x. one_more x (count_of x v.draws) (draw_count x seats) (draw_count x (set seats id w)) (count_of x w.draws) left (d.draws x) (count_of-push x next v.draws) (draw_count-set w x);
        next_limit = omega (arith, d.next_limit, done_count-set w);
        done = λ h. absurd (omega (arith, d.done (omega (arith, h, done_count-set w))));
        bound_limit = d.bound_limit;
        bound_is = ⊎_elim inl (λ h. inr (omega (arith, h, lowering_count-set w bound))) d.bound_is;
        bound_least = λ x h. omega (arith, d.bound_least x h, lowering_count-set w x);
        bounds_are = λ x h. ⊎_elim inl (λ k. inr (omega (arith, k, lowering_count-set w x))) (d.bounds_are x (omega (arith, h, bound_count-set w x)));
        bounds_least = λ x h. omega (arith, d.bounds_least x h, bound_count-set w x);
      }
    where
      one_more : (x had all now has : ℕ) → next < jobs → all ≡ once_below x (min next jobs) → has ≡ had + cond (next == x) 1 0 → now + had ≡ all + has → now ≡ once_below x (min (next + 1) jobs)
      one_more x had all now has left is more set = grind (arith, nat_tests)

  -- the seat draws a number that is no job's
  late_draw_keeps : v.is_done ≡ false → jobs ≤ next → IsDesk jobs workers (next + 1) bound (set seats id (after_done v))
  late_draw_keeps new none_left =
      let w = after_done v in
      record {
        all_seats = all_seats-set w;
        same_jobs = same_jobs-set w its_jobs;
        draws = λ x. omega (arith, same x, d.draws x, draw_count-set w x);
        next_limit = omega (arith, d.next_limit, done_count-set w, was);
        done = λ _. omega (arith, none_left);
        bound_limit = d.bound_limit;
        bound_is = ⊎_elim inl (λ h. inr (omega (arith, h, lowering_count-set w bound))) d.bound_is;
        bound_least = λ x h. omega (arith, d.bound_least x h, lowering_count-set w x);
        bounds_are = λ x h. ⊎_elim inl (λ k. inr (omega (arith, k, lowering_count-set w x))) (d.bounds_are x (omega (arith, h, bound_count-set w x)));
        bounds_least = λ x h. omega (arith, d.bounds_least x h, bound_count-set w x);
      }
    where
      was : one_if_done v ≡ 0
      was = rw new refl

      same : (x : ℕ) → once_below x (min next jobs) ≡ once_below x (min (next + 1) jobs)
      same x = let e : min next jobs ≡ min (next + 1) jobs = omega arith in ap (once_below x) e

  -- the seat lowers the bound
  pub lower_keeps : (k : ℕ) → IsDesk jobs workers next (min bound k) (set seats id (after_lower v k))
  lower_keeps k =
      let w = after_lower v k in
      let more = λ (x : ℕ). let push = count_of-push x k v.lowerings in let now = lowering_count-set w x in added x (count_of x v.lowerings) (lowering_count x seats) (lowering_count x (set seats id w)) (count_of x w.lowerings) push now in
      record {
        all_seats = all_seats-set w;
        same_jobs = same_jobs-set w its_jobs;
        draws = λ x. omega (arith, d.draws x, draw_count-set w x);
        next_limit = omega (arith, d.next_limit, done_count-set w);
        done = λ h. d.done (omega (arith, h, done_count-set w));
        bound_limit = omega (arith, d.bound_limit);
        bound_is = least_is (dec_le bound k) (λ x. lowering_count x seats) (λ x. lowering_count x (set seats id w)) more d.bound_is;
        bound_least = λ x h. not_lower x (lowering_count x seats) (lowering_count x (set seats id w)) h (more x) (d.bound_least x (omega (arith, h)));
        bounds_are = λ x h. ⊎_elim inl (λ l. inr (omega (arith, l, more x))) (d.bounds_are x (omega (arith, h, bound_count-set w x)));
        bounds_least = λ x h. omega (arith, d.bounds_least x (omega (arith, h)), bound_count-set w x);
      }
    where
      added : (x had all now has : ℕ) → has ≡ had + cond (k == x) 1 0 → now + had ≡ all + has → now ≡ all + cond (k == x) 1 0
      added x had all now has push set = omega (arith, push, set)

      least_is : Dec (bound ≤ k) → (was now : ℕ → ℕ) → ((x : ℕ) → now x ≡ was x + cond (k == x) 1 0) → (bound ≡ jobs) ⊎ (0 < was bound) → (min bound k ≡ jobs) ⊎ (0 < now (min bound k))
      least_is (yes le) was now more is =
          let e : bound ≡ min bound k = omega arith in
          subst (λ m. (m ≡ jobs) ⊎ (0 < now m)) e (⊎_elim inl (λ h. inr (omega (arith, h, more bound))) is)
      least_is (no lt) was now more is =
          let e : k ≡ min bound k = omega arith in
          let here : now k ≡ was k + cond (k == k) 1 0 = more k in
          subst (λ m. (m ≡ jobs) ⊎ (0 < now m)) e (inr (grind (arith, nat_tests)))

      not_lower : (x all now : ℕ) → x < min bound k → now ≡ all + cond (k == x) 1 0 → all ≡ 0 → now ≡ 0
      not_lower x all now h more none = grind (arith, nat_tests)

  -- the seat reads the bound
  pub bound_keeps : IsDesk jobs workers next bound (set seats id (after_bound v bound))
  bound_keeps =
      let w = after_bound v bound in
      record {
        all_seats = all_seats-set w;
        same_jobs = same_jobs-set w its_jobs;
        draws = λ x. omega (arith, d.draws x, draw_count-set w x);
        next_limit = omega (arith, d.next_limit, done_count-set w);
        done = λ h. d.done (omega (arith, h, done_count-set w));
        bound_limit = d.bound_limit;
        bound_is = ⊎_elim inl (λ h. inr (omega (arith, h, lowering_count-set w bound))) d.bound_is;
        bound_least = λ x h. omega (arith, d.bound_least x h, lowering_count-set w x);
        bounds_are = λ x h. ⊎_elim inl (λ k. inr (omega (arith, k, lowering_count-set w x)))
            (read_by x (ℕ_discrete bound x) (count_of x v.bounds) (count_of x w.bounds) (bound_count x (set seats id w)) h (count_of-push x bound v.bounds) (bound_count-set w x));
        bounds_least = λ x h. not_read x (count_of x v.bounds) (bound_count x seats) (bound_count x (set seats id w)) (count_of x w.bounds) h (count_of-push x bound v.bounds) (bound_count-set w x) (d.bounds_least x h);
      }
    where
      read_by : (x : ℕ) → Dec (bound ≡ x) → (had has now : ℕ) → 0 < now → has ≡ had + cond (bound == x) 1 0 → now + had ≡ bound_count x seats + has → (x ≡ jobs) ⊎ (0 < lowering_count x seats)
      read_by x (yes same) had has now some_now push set = subst (λ y. (y ≡ jobs) ⊎ (0 < lowering_count y seats)) same d.bound_is
      read_by x (no other) had has now some_now push set = d.bounds_are x (before (bound_count x seats) some_now push set other)
        where
          before : (all : ℕ) → 0 < now → has ≡ had + cond (bound == x) 1 0 → now + had ≡ all + has → bound ≢ x → 0 < all
          before all some_now push set other = grind (arith, nat_tests)

      not_read : (x had all now has : ℕ) → x < bound → has ≡ had + cond (bound == x) 1 0 → now + had ≡ all + has → all ≡ 0 → now ≡ 0
      not_read x had all now has h push set none = grind (arith, nat_tests)

  -- the seat looks at the next number
  pub look_keeps : IsDesk jobs workers next bound (set seats id (after_look v next))
  look_keeps = by (nat_lt next v.jobs) refl
    where
      by : (b : Bool) → nat_lt next v.jobs ≡ b → IsDesk jobs workers next bound (set seats id (cond b v (after_done v)))
      by true e = subst (IsDesk jobs workers next bound) (sym (set_again seats id v at)) d
      by false e = done_keeps (let h = ltb-false next v.jobs e in let j = its_jobs in omega arith)

  -- the seat draws
  pub draw_keeps : v.is_done ≡ false → IsDesk jobs workers (next + 1) bound (set seats id (after_draw v next))
  draw_keeps new = by (nat_lt next v.jobs) refl
    where
      by : (b : Bool) → nat_lt next v.jobs ≡ b → IsDesk jobs workers (next + 1) bound (set seats id (cond b (record v { draws = v.draws ++ next ∷ [] }) (after_done v)))
      by true e = job_keeps (let h = ltb-true next v.jobs e in let j = its_jobs in omega arith)
      by false e = late_draw_keeps new (let h = ltb-false next v.jobs e in let j = its_jobs in omega arith)

-- what all counted numbers of a list have, its elements have
pub all_counted : (P : ℕ → Type 0) (xs : List ℕ) → ((x : ℕ) → 0 < count_of x xs → P x) → All P xs
all_counted P xs each k d h =
    let x = get_or xs k d in
    let e : (x == x) ≡ true = eq-eqb x x refl in
    let one : ℕ = 1 in
    let c : cond (x == x) one 0 ≡ one = ap (λ b. cond b one 0) e in
    each x (omega (arith, c, get_or-le-sum_by (λ y. cond (y == x) 1 0) xs k d h))

-- the next number is at most jobs plus the number of seats
pub next_most : (jobs workers next bound : ℕ) (seats : List Knowledge) → IsDesk jobs workers next bound seats → next ≤ jobs + workers
next_most jobs workers next bound seats d = omega (arith, d.next_limit, d.all_seats, count_by-le-length (λ (v : Knowledge). v.is_done) seats)

-- two seats, of which one is done, have drawn all jobs
pub two_drew_all : (jobs workers next bound : ℕ) (u v : Knowledge) → IsDesk jobs workers next bound (u ∷ v ∷ []) → u.is_done ≡ true → (x : ℕ) → count_of x u.draws + count_of x v.draws ≡ once_below x jobs
two_drew_all jobs workers next bound u v d done x =
    let here : one_if_done u ≡ 1 = rw done refl in
    let none_left : jobs ≤ next = d.done (omega (arith, sum_by-cons one_if_done u (v ∷ []), here)) in
    let m : min next jobs ≡ jobs = omega arith in
    let a = sum_by-cons (λ (w : Knowledge). count_of x w.draws) u (v ∷ []) in
    let b = sum_by-cons (λ (w : Knowledge). count_of x w.draws) v [] in
    let c : once_below x (min next jobs) ≡ once_below x jobs = ap (once_below x) m in
    omega (arith, d.draws x, a, b, c)
