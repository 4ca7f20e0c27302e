-- What follows from a row of a book.
use Rattle.std.proofs.Common.{◌≡◌, ℕ, zero, suc, ◌+◌, ◌<◌, ◌≤◌, List, [], ◌∷◌, ◌++◌, All, Bool, true, false, not, ◌&&◌, ◌||◌, cond, nat_lt, Option, Some, None, Err, is_some, count_by, refl, sym, ap, ◌∙◌, subst, arith, append_assoc}
use Rattle.std.specs.List.{find}
use Rattle.std.specs.Option.{option_or}
use Rattle.std.proofs.lemmas.Bool.{ltb-true, eqb-true, and_parts, or_left, or_right, lt-ltb, not-false, true≢false}
use Rattle.std.proofs.lemmas.List.Sums.{sum_by-cons}
use Rattle.std.proofs.lemmas.List.Folds.{find-append}
use Rattle.jvms_program.specs.declared.program.Class.{Class}
use Rattle.campaign_jobs.specs.declared.plan.Plan.{Plan}
use Rattle.campaign_jobs.specs.declared.result.JobResult.{JobResult}
use Rattle.campaign_book.specs.declared.row.Row.{Row}
use Rattle.campaign_book.specs.declared.row.Row.TheVariants.{Done, Skipped}
use Rattle.campaign_book.specs.declared.fault.StoreFault.{StoreFault}
use Rattle.campaign_book.specs.declared.fault.StoreFault.TheVariants.{Range, Repeated, NotSkippable, Memory}
use Rattle.campaign_jobs.specs.Reports.{IsResultOf}
use Rattle.campaign_book.specs.Rows.{number_of, is_at, row_at, is_some_cycle, has_number, has_cycle_at, is_skippable, refusal, Replays, IsRight, IsStoring}
use Rattle.campaign_book.specs.Books.{HasCycle, IsBook, IsSkip}

tail_all : {A : Type 0} (P : A → Type 0) (x : A) (xs : List A) → All P (x ∷ xs) → All P xs
tail_all P x xs all k d h = all (suc k) d (omega arith)

head_all : {A : Type 0} (P : A → Type 0) (x : A) (xs : List A) → All P (x ∷ xs) → P x
head_all P x xs all = all zero x (omega arith)

cons_all : {A : Type 0} (P : A → Type 0) (x : A) (xs : List A) → P x → All P xs → All P (x ∷ xs)
cons_all P x xs p all zero d h = p
cons_all P x xs p all (suc k) d h = all k d (omega arith)

-- A row that is found is among the rows, and has the number.
found : (P : Row → Type 0) (k : ℕ) (rows : List Row) (r : Row) → All P rows → find (is_at k) rows ≡ Some r → P r × (number_of r ≡ k)
found P k [] r all e = absurd (cc)
found P k (x ∷ xs) r all e = by (λ t. found P k xs r (tail_all P x xs all) t) (is_at k x) refl
  where
    by : (find (is_at k) xs ≡ Some r → P r × (number_of r ≡ k)) → (b : Bool) → is_at k x ≡ b → P r × (number_of r ≡ k)
    by rest true is =
        let same : Some x ≡ Some r = sym (ap (λ (b : Bool). cond b (Some x) (find (is_at k) xs)) is) ∙ e in
        let here : x ≡ r = cc in
        subst (λ y. P y × (number_of y ≡ k)) here (head_all P x xs all, eqb-true (number_of x) k is)
    by rest false is = rest (sym (ap (λ (b : Bool). cond b (Some x) (find (is_at k) xs)) is) ∙ e)

-- A row without a reason against it passes the three tests.
passes : (a b c : Bool) (x y z : StoreFault) → cond a (Some x) (cond b (Some y) (cond c (Some z) None)) ≡ None → (a ≡ false) × (b ≡ false) × (c ≡ false)
passes true b c x y z e = absurd (cc)
passes false true c x y z e = absurd (cc)
passes false false true x y z e = absurd (cc)
passes false false false x y z e = (refl, refl, refl)

skip_of : (plan : Plan) (rows : List Row) (row : Row) → is_skippable plan rows row ≡ true → IsSkip plan rows row
skip_of plan rows (Done k o) e = tt
skip_of plan rows (Skipped k because) e =
    let p = and_parts plan.stop (nat_lt because k && has_cycle_at because rows) e in
    let q = and_parts (nat_lt because k) (has_cycle_at because rows) p.1 in
    (p.0, ltb-true because k q.0, q.1)

-- `IsSkip` still holds after rows are appended.
skip_longer : (plan : Plan) (rows more : List Row) (row : Row) → IsSkip plan rows row → IsSkip plan (rows ++ more) row
skip_longer plan rows more (Done k o) s = tt
skip_longer plan rows more (Skipped k because) s = (s.0, s.1, ap is_some_cycle (find-append (is_at because) rows more) ∙ either (row_at because rows) s.2)
  where
    either : (o : Option Row) → is_some_cycle o ≡ true → is_some_cycle (option_or o (row_at because more)) ≡ true
    either None e = absurd (cc)
    either (Some r) e = e

skips : (plan : Plan) (past rows : List Row) → Replays plan past rows → All (IsSkip plan (past ++ rows)) rows
skips plan past [] r = λ k d h. absurd (omega arith)
skips plan past (x ∷ xs) r =
    let t = passes (not (nat_lt (number_of x) plan.jobs)) (has_number (number_of x) past) (not (is_skippable plan past x)) Range Repeated NotSkippable r.0 in
    let rest = subst (λ (rs : List Row). All (IsSkip plan rs) xs) (append_assoc past (x ∷ []) xs) (skips plan (past ++ x ∷ []) xs r.1) in
    cons_all (IsSkip plan (past ++ x ∷ xs)) x xs (skip_longer plan past (x ∷ xs) x (skip_of plan past x (not-false (is_skippable plan past x) t.2))) rest

-- If the row with a number is a result with a cycle, the job with this number has one.
cycle_right : (program : List Class) (plan : Plan) (k : ℕ) (rows : List Row) → All (IsRight program plan) rows → has_cycle_at k rows ≡ true → HasCycle program plan k
cycle_right program plan k rows all e = by (row_at k rows) refl e
  where
    by : (o : Option Row) → row_at k rows ≡ o → is_some_cycle o ≡ true → HasCycle program plan k
    by None at e = absurd (cc)
    by (Some (Done n result)) at e =
        let f = found (IsRight program plan) k rows (Done n result) all at in
        (result, subst (λ j. IsResultOf program plan j result) f.1 f.0, e)
    by (Some (Skipped n because)) at e = absurd (cc)

-- A result in a book is that of the job of its number.
pub done_right : (program : List Class) (plan : Plan) (k : ℕ) (rows : List Row) (n : ℕ) (result : JobResult) → IsBook program plan rows → find (is_at k) rows ≡ Some (Done n result) → IsResultOf program plan k result
done_right program plan k rows n result b e =
    let f = found (IsRight program plan) k rows (Done n result) b.right e in
    subst (λ j. IsResultOf program plan j result) f.1 f.0

-- A number is skipped only by a plan that stops, and only if the result of a smaller one has a cycle.
pub skip_right : (program : List Class) (plan : Plan) (k : ℕ) (rows : List Row) (n because : ℕ) → IsBook program plan rows → find (is_at k) rows ≡ Some (Skipped n because) → (plan.stop ≡ true) × (because < k) × HasCycle program plan because
skip_right program plan k rows n because b e =
    let f = found (IsSkip plan rows) k rows (Skipped n because) (skips plan [] rows b.replays) e in
    let s = f.0 in
    let same = f.1 in
    let less = s.1 in
    (s.0, omega arith, cycle_right program plan because rows b.right s.2)

-- No later row has the number of an earlier one, and no two rows have the same number.
differ : (plan : Plan) (past rows : List Row) → Replays plan past rows → (k : ℕ) → (has_number k past ≡ true → count_by (is_at k) rows ≡ 0) × (count_by (is_at k) rows ≤ 1)
differ plan past [] r k = ((λ _. refl), omega arith)
differ plan past (x ∷ xs) r k = by (is_at k x) refl (differ plan (past ++ x ∷ []) xs r.1 k) (sum_by-cons (λ row. cond (is_at k row) 1 0) x xs)
  where
    new : has_number (number_of x) past ≡ false
    new = (passes (not (nat_lt (number_of x) plan.jobs)) (has_number (number_of x) past) (not (is_skippable plan past x)) Range Repeated NotSkippable r.0).1

    either : (o p : Option Row) → is_some (option_or o p) ≡ (is_some o || is_some p)
    either None p = refl
    either (Some r) p = refl

    longer : has_number k (past ++ x ∷ []) ≡ (has_number k past || is_some (cond (is_at k x) (Some x) None))
    longer = ap is_some (find-append (is_at k) past (x ∷ [])) ∙ either (row_at k past) (row_at k (x ∷ []))

    by : (b : Bool) → is_at k x ≡ b
        → (has_number k (past ++ x ∷ []) ≡ true → count_by (is_at k) xs ≡ 0) × (count_by (is_at k) xs ≤ 1)
        → count_by (is_at k) (x ∷ xs) ≡ cond (is_at k x) 1 0 + count_by (is_at k) xs
        → (has_number k past ≡ true → count_by (is_at k) (x ∷ xs) ≡ 0) × (count_by (is_at k) (x ∷ xs) ≤ 1)
    by true is rest one =
        let here = rest.0 (longer ∙ or_right (has_number k past) (is_some (cond (is_at k x) (Some x) None)) (ap (λ (b : Bool). is_some (cond b (Some x) None)) is)) in
        let n = ap {B = ℕ} (λ (b : Bool). cond b 1 0) is in
        ((λ was. let was' = ap (λ j. has_number j past) (sym (eqb-true (number_of x) k is)) in absurd (true≢false (sym was ∙ was' ∙ new))), omega (arith, here, n, one))
    by false is rest one =
        let n = ap {B = ℕ} (λ (b : Bool). cond b 1 0) is in
        ((λ was. omega (arith, rest.0 (longer ∙ or_left (has_number k past) (is_some (cond (is_at k x) (Some x) None)) was), n, one)), omega (arith, rest.1, n, one))

-- Each number that a book skips is skipped for a smaller one with a cycle.
pub book_skips : (program : List Class) (plan : Plan) (rows : List Row) → IsBook program plan rows → All (IsSkip plan rows) rows
book_skips program plan rows b = skips plan [] rows b.replays

-- No two rows of a book have the same number.
pub numbers_differ : (program : List Class) (plan : Plan) (rows : List Row) → IsBook program plan rows → (k : ℕ) → count_by (is_at k) rows ≤ 1
numbers_differ program plan rows b k = (differ plan [] rows b.replays k).1

-- A report may be stored if its number is below the number of jobs and no row has it.
pub storable : (plan : Plan) (rows : List Row) (k : ℕ) (o : JobResult) → k < plan.jobs → find (is_at k) rows ≡ None → refusal plan rows (Done k o) ≡ None
storable plan rows k o small none = rw (lt-ltb k plan.jobs small, none) refl

-- Without a reason against a row, only memory refuses it.
pub only_memory : (plan : Plan) (old : List Row) (row : Row) (fault : StoreFault) (new : List Row) → refusal plan old row ≡ None → IsStoring plan old row (Err fault) new → fault ≡ Memory
only_memory plan old row Range new none s = let e = sym none ∙ s.0 in absurd (cc)
only_memory plan old row Repeated new none s = let e = sym none ∙ s.0 in absurd (cc)
only_memory plan old row NotSkippable new none s = let e = sym none ∙ s.0 in absurd (cc)
only_memory plan old row Memory new none s = refl
