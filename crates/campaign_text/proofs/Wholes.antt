-- The tables of two consecutive parts of a campaign are together the table of both.
use Rattle.std.proofs.Common.{◌≡◌, ℕ, zero, suc, ◌+◌, ◌<◌, ◌≤◌, ◌⊎◌, inl, inr, List, [], ◌∷◌, ◌++◌, Bool, true, false, Some, length, refl, sym, ap, ◌∙◌, subst, arith}
use Rattle.std.specs.Prelude.{slice_get}
use Rattle.std.proofs.lemmas.List.{length-append}
use Rattle.std.proofs.lemmas.Bool.{true≢false}
use Rattle.jvms_program.specs.declared.program.Class.{Class}
use Rattle.campaign.specs.Tables.{EndsWithCycle, IsTable}
use Rattle.campaign_jobs.proofs.PartJobs.{same_job}
use Rattle.campaign_jobs.specs.declared.plan.Plan.{Plan}
use Rattle.campaign_jobs.specs.declared.result.JobResult.{JobResult}
use Rattle.campaign_jobs.specs.Plans.{part_of}
use Rattle.campaign_jobs.specs.Reports.{IsResultIn, IsResultOf, job_shown}

-- The element at a place of two joined lists is in the first one, or in the second at a place that is smaller by the
-- length of the first.
get_joined : (xs ys : List JobResult) (k : ℕ) (r : JobResult) → slice_get (xs ++ ys) k ≡ Some r
    → (slice_get xs k ≡ Some r) ⊎ ((j : ℕ) × (k ≡ length xs + j) × (slice_get ys j ≡ Some r))
get_joined [] ys k r is = inr (k, omega arith, is)
get_joined (x ∷ xs) ys zero r is = inl is
get_joined (x ∷ xs) ys (suc k) r is = more (get_joined xs ys k r is)
  where
    more : (slice_get xs k ≡ Some r) ⊎ ((j : ℕ) × (k ≡ length xs + j) × (slice_get ys j ≡ Some r))
        → (slice_get (x ∷ xs) (suc k) ≡ Some r) ⊎ ((j : ℕ) × (suc k ≡ length (x ∷ xs) + j) × (slice_get ys j ≡ Some r))
    more (inl first) = inl first
    more (inr second) =
        let place : k ≡ length xs + second.0 = second.1 in
        inr (second.0, omega (arith, place), second.2)

-- The result of a job is also that of any other job that shows the same.
same_result : (program : List Class) (plan other : Plan) (k j : ℕ) (r : JobResult) → plan.spec ≡ other.spec → job_shown program plan k ≡ job_shown program other j → IsResultOf program plan k r → IsResultOf program other j r
same_result program plan other k j r spec shown is =
    subst (λ s. ∥ IsResultIn s (job_shown program other j) r ∥₁) spec (subst (λ s. ∥ IsResultIn plan.spec s r ∥₁) shown is)

module _ (program : List Class) (plan : Plan) (begin some more : ℕ) where
  whole : Plan
  whole = part_of plan begin (some + more)

  -- A job of the first part.
  first_shown : (k : ℕ) → job_shown program (part_of plan begin some) k ≡ job_shown program (part_of plan begin (some + more)) k
  first_shown k = same_job program plan begin some k ∙ sym (same_job program plan begin (some + more) k)

  -- A job of the second part.
  second_shown : (j k : ℕ) → k ≡ some + j → job_shown program (part_of plan (begin + some) more) j ≡ job_shown program (part_of plan begin (some + more)) k
  second_shown j k here =
      let place : begin + some + j ≡ begin + k = omega (arith, here) in
      same_job program plan (begin + some) more j ∙ ap (job_shown program plan) place ∙ sym (same_job program plan begin (some + more) k)

  -- A plan that doesn't stop has all results.
  whole_length : (p : Plan) (results : List JobResult) → p.stop ≡ false → (length results ≡ p.jobs) ⊎ ((p.stop ≡ true) × EndsWithCycle results) → length results ≡ p.jobs
  whole_length p results runs (inl all) = all
  whole_length p results runs (inr ends) = absurd (true≢false (sym ends.0 ∙ runs))

  pub is_whole : (results others : List JobResult) → plan.stop ≡ false
      → IsTable program (part_of plan begin some) results → IsTable program (part_of plan (begin + some) more) others
      → IsTable program (part_of plan begin (some + more)) (results ++ others)
  is_whole results others runs one two =
      let len : length results ≡ some = whole_length (part_of plan begin some) results runs one.all in
      let len_two : length others ≡ more = whole_length (part_of plan (begin + some) more) others runs two.all in
      let all : length (results ++ others) ≡ some + more = length-append results others ∙ omega (arith, len, len_two) in
      record {
        beginning = record {
          within = omega (arith, all);
          right = λ k r is. right len k r (get_joined results others k r is);
          before = λ stops. absurd (true≢false (sym stops ∙ runs));
        };
        all = inl all;
      }
    where
      right : length results ≡ some → (k : ℕ) (r : JobResult) → (slice_get results k ≡ Some r) ⊎ ((j : ℕ) × (k ≡ length results + j) × (slice_get others j ≡ Some r))
          → IsResultOf program (part_of plan begin (some + more)) k r
      right len k r (inl first) = same_result program (part_of plan begin some) (part_of plan begin (some + more)) k k r refl (first_shown k) (one.beginning.right k r first)
      right len k r (inr second) =
          same_result program (part_of plan (begin + some) more) (part_of plan begin (some + more)) second.0 k r refl (second_shown second.0 k (omega (arith, second.1, len)))
          (two.beginning.right second.0 r second.2)
