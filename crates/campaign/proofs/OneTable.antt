-- A plan has one table.
use Rattle.std.proofs.Common.{◌≡◌, ℕ, zero, suc, ◌<◌, ◌≤◌, ◌⊎◌, inl, inr, List, [], ◌∷◌, true, Some, length, refl, sym, ap, ◌∙◌, arith}
use Rattle.std.specs.Prelude.{slice_get}
use Rattle.std.proofs.lemmas.Bool.{true≢false}
use native.Mathlib.Decide.{dec_le}
use Rattle.jvms_program.specs.declared.program.Class.{Class}
use Rattle.campaign_jobs.specs.declared.plan.Plan.{Plan}
use Rattle.campaign_jobs.specs.declared.result.JobResult.{JobResult}
use Rattle.campaign_jobs.specs.Atomicities.{has_cycle}
use Rattle.campaign_jobs.proofs.OneResult.{is_one as one_result}
use Rattle.campaign.specs.Tables.{EndsWithCycle, IsTable}

there : (ys : List JobResult) (k : ℕ) → k < length ys → (s : JobResult) × (slice_get ys k ≡ Some s)
there [] k below = absurd (omega arith)
there (y ∷ ys) zero below = (y, refl)
there (y ∷ ys) (suc k) below = there ys k (omega arith)

same_lists : (xs ys : List JobResult) → length xs ≡ length ys → ((k : ℕ) (r s : JobResult) → slice_get xs k ≡ Some r → slice_get ys k ≡ Some s → r ≡ s) → xs ≡ ys
same_lists [] [] len same = refl
same_lists [] (y ∷ ys) len same = absurd (omega (arith, len))
same_lists (x ∷ xs) [] len same = absurd (omega (arith, len))
same_lists (x ∷ xs) (y ∷ ys) len same =
    ap (λ z. z ∷ xs) (same zero x y refl refl)
    ∙ ap (λ l. y ∷ l) (same_lists xs ys (omega (arith, len)) (λ k r s a b. same (suc k) r s a b))

module _ (program : List Class) (plan : Plan) where
  same_at : (xs ys : List JobResult) → IsTable program plan xs → IsTable program plan ys → (k : ℕ) (r s : JobResult) → slice_get xs k ≡ Some r → slice_get ys k ≡ Some s → r ≡ s
  same_at xs ys first second k r s a b =
      one_result program plan k r s (first.beginning.right k r a) (second.beginning.right k s b)

  cycle_ends : (xs ys : List JobResult) → IsTable program plan xs → IsTable program plan ys → plan.stop ≡ true → EndsWithCycle xs → length xs < length ys → ⊥
  cycle_ends xs ys first second stop (k, r, last, at, cycle) less =
      let y = there ys k (omega (arith, last)) in
      let same = same_at xs ys first second k r y.0 at y.1 in
      absurd (true≢false (sym cycle ∙ ap (λ (x : JobResult). has_cycle x.atomicity) same ∙ second.beginning.before stop k (omega (arith, last)) y.0 y.1))

  no_longer : (xs ys : List JobResult) → IsTable program plan xs → IsTable program plan ys → length xs < length ys → ⊥
  no_longer xs ys first second less = by first.all
    where
      by : (length xs ≡ plan.jobs) ⊎ ((plan.stop ≡ true) × EndsWithCycle xs) → ⊥
      by (inl all) = let within = second.beginning.within in omega (arith, all)
      by (inr end) = cycle_ends xs ys first second end.0 end.1 less

  pub is_one : (xs ys : List JobResult) → IsTable program plan xs → IsTable program plan ys → xs ≡ ys
  is_one xs ys first second =
      let one : length xs < length ys → ⊥ = no_longer xs ys first second in
      let other : length ys < length xs → ⊥ = no_longer ys xs second first in
      same_lists xs ys (by one other (dec_le (suc (length xs)) (length ys)) (dec_le (suc (length ys)) (length xs))) (same_at xs ys first second)
    where
      by : (length xs < length ys → ⊥) → (length ys < length xs → ⊥) → Dec (suc (length xs) ≤ length ys) → Dec (suc (length ys) ≤ length xs) → length xs ≡ length ys
      by one other (yes d) e = absurd (one d)
      by one other (no d) (yes e) = absurd (other e)
      by one other (no d) (no e) = omega arith
