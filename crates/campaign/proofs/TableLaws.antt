-- A table with one more result.
use Rattle.std.proofs.Common.{◌≡◌, ℕ, zero, suc, ◌+◌, ◌<◌, ◌≤◌, ◌⊎◌, inl, inr, List, [], ◌∷◌, ◌++◌, Bool, true, false, ◌&&◌, Some, length, refl, sym, ap, ◌∙◌, subst, arith}
use Rattle.std.specs.Prelude.{slice_get}
use Rattle.std.proofs.lemmas.List.{length-append}
use Rattle.std.proofs.lemmas.Bool.{and_parts, true≢false}
use Rattle.std.proofs.lemmas.Option.{none-some, same_Some}
use native.Mathlib.Decide.{dec_le}
use Rattle.jvms_program.specs.declared.program.Class.{Class}
use Rattle.campaign_jobs.specs.declared.plan.Plan.{Plan}
use Rattle.campaign_jobs.specs.declared.result.JobResult.{JobResult}
use Rattle.campaign_jobs.specs.Atomicities.{has_cycle}
use Rattle.campaign_jobs.specs.Reports.{IsResultOf}
use Rattle.campaign_jobs.proofs.OneResult.{is_one}
use Rattle.campaign_book.specs.declared.row.Row.{Row}
use Rattle.campaign_book.specs.declared.row.Row.TheVariants.{Skipped}
use Rattle.campaign_book.specs.Books.{IsBook}
use Rattle.campaign_book.specs.Rows.{row_at}
use Rattle.campaign_book.proofs.Found.{skip_right}
use Rattle.campaign.specs.Tables.{HasNoCycle, IsBeginning, IsTable}

-- An element of a list with one more is in the list without it, or is the last one.
get_push : (xs : List JobResult) (x : JobResult) (k : ℕ) (r : JobResult) → slice_get (xs ++ x ∷ []) k ≡ Some r → (slice_get xs k ≡ Some r) ⊎ ((k ≡ length xs) × (x ≡ r))
get_push [] x zero r is = inr (refl, same_Some x r is)
get_push [] x (suc k) r is = absurd (none-some r is)
get_push (y ∷ ys) x zero r is = inl is
get_push (y ∷ ys) x (suc k) r is = more (get_push ys x k r is)
  where
    more : (slice_get ys k ≡ Some r) ⊎ ((k ≡ length ys) × (x ≡ r)) → (slice_get (y ∷ ys) (suc k) ≡ Some r) ⊎ ((suc k ≡ length (y ∷ ys)) × (x ≡ r))
    more (inl before) = inl before
    more (inr here) = inr (ap suc here.0, here.1)

last_get : (xs : List JobResult) (x : JobResult) → slice_get (xs ++ x ∷ []) (length xs) ≡ Some x
last_get [] x = refl
last_get (y ∷ ys) x = last_get ys x

module _ (program : List Class) (plan : Plan) (xs : List JobResult) (n : ℕ) (o : JobResult) (b : IsBeginning program plan xs) (len : length xs ≡ n) (small : n < plan.jobs)
    (none : plan.stop ≡ true → (k : ℕ) → k < n → HasNoCycle program plan k) (right : IsResultOf program plan n o) where
  pub longer : length (xs ++ o ∷ []) ≡ n + 1
  longer = omega (arith, length-append xs (o ∷ []), len)

  all_right : (k : ℕ) (r : JobResult) → slice_get (xs ++ o ∷ []) k ≡ Some r → IsResultOf program plan k r
  all_right k r is = by (get_push xs o k r is)
    where
      by : (slice_get xs k ≡ Some r) ⊎ ((k ≡ length xs) × (o ≡ r)) → IsResultOf program plan k r
      by (inl before) = b.right k r before
      by (inr here) = subst (λ j. IsResultOf program plan j r) (sym len ∙ sym here.0) (subst (IsResultOf program plan n) here.1 right)

  pub grows : IsBeginning program plan (xs ++ o ∷ [])
  grows =
      record {
        within = omega (arith, longer, small);
        right = all_right;
        before = λ stop k h r is. none stop k (omega (arith, longer, h)) r (all_right k r is);
      }

  pub ends : (plan.stop && has_cycle o.atomicity) ≡ true → IsTable program plan (xs ++ o ∷ [])
  ends e =
      let p = and_parts plan.stop (has_cycle o.atomicity) e in
      record { beginning = grows; all = inr (p.0, (n, o, sym longer, subst (λ k. slice_get (xs ++ o ∷ []) k ≡ Some o) len (last_get xs o), p.1)) }

  pub goes_on : (plan.stop && has_cycle o.atomicity) ≡ false → plan.stop ≡ true → (k : ℕ) → k < n + 1 → HasNoCycle program plan k
  goes_on e stop k h = by (dec_le (suc k) n)
    where
      by : Dec (suc k ≤ n) → HasNoCycle program plan k
      by (yes d) = none stop k d
      by (no d) = λ r is.
          let same : n ≡ k = omega (arith, h) in
          let here : has_cycle o.atomicity ≡ false = ap (λ (s : Bool). s && has_cycle o.atomicity) (sym stop) ∙ e in
          let one : r ≡ o = is_one program plan n r o (subst (λ j. IsResultOf program plan j r) (sym same) is) right in
          ap (λ (x : JobResult). has_cycle x.atomicity) one ∙ here

-- A number that the table needs isn't skipped.
pub not_skipped : (program : List Class) (plan : Plan) (rows : List Row) (number n because : ℕ) → IsBook program plan rows → row_at number rows ≡ Some (Skipped n because)
    → (plan.stop ≡ true → (k : ℕ) → k < number → HasNoCycle program plan k) → ⊥
not_skipped program plan rows number n because book at needed =
    let s = skip_right program plan number rows n because book at in
    let cycle = s.2 in
    absurd (true≢false (sym cycle.2 ∙ needed s.0 because s.1 cycle.0 cycle.1))
