-- The findings for the results of a table yield the numbers of those that differ.
use Rattle.std.proofs.Common.{◌≡◌, ℕ, zero, suc, ◌+◌, inl, inr, List, [], ◌∷◌, length, map, Option, Some, None, refl, sym, ap, ◌∙◌, subst, add-zero, add-one, zero-add, arith}
use Rattle.std.specs.Prelude.{Result, Ok, Err, filter_map, slice_get}
use Rattle.std.specs.List.{AllZip, range_with_len}
use Rattle.jvms_program.specs.declared.program.Class.{Class}
use Rattle.campaign_jobs.specs.declared.plan.Plan.{Plan}
use Rattle.campaign_jobs.specs.declared.result.JobResult.{JobResult}
use Rattle.campaign.specs.Audits.{AreDifferent, IsFinding, IsFindingAt}

-- These are the results of a table from this number on.
abbrev AreFrom : List JobResult → ℕ → List JobResult → Type 0
AreFrom all first rs = (k : ℕ) (r : JobResult) → slice_get rs k ≡ Some r → slice_get all (first + k) ≡ Some r

head_is : (all : List JobResult) (first : ℕ) (r : JobResult) (rs : List JobResult) → AreFrom all first (r ∷ rs) → slice_get all first ≡ Some r
head_is all first r rs from = subst (λ k. slice_get all k ≡ Some r) (add-zero first) (from zero r refl)

tail_is : (all : List JobResult) (first : ℕ) (r : JobResult) (rs : List JobResult) → AreFrom all first (r ∷ rs) → AreFrom all (suc first) rs
tail_is all first r rs from k s at =
    let next : first + suc k ≡ suc first + k = omega arith in
    subst (λ j. slice_get all j ≡ Some s) next (from (suc k) s at)

different_from : {E : Type 0} (program : List Class) (plan : Plan) (all : List JobResult) (first : ℕ) (rs : List JobResult) (found : List (Option (Result ℕ E))) (numbers : List ℕ)
    → AreFrom all first rs → AllZip (IsFindingAt program plan all) (range_with_len first (length rs)) found
    → filter_map (λ o. o) found ≡ map Ok numbers → AreDifferent program plan first rs numbers
unfolding IsFinding
different_from program plan all first [] [] [] from each kept = refl
different_from program plan all first [] [] (n ∷ ns) from each kept = cc
different_from program plan all first [] (o ∷ os) numbers from each kept = absurd each
different_from program plan all first (r ∷ rs) [] numbers from each kept = absurd each
different_from program plan all first (r ∷ rs) (None ∷ os) numbers from each kept =
    let same = each.0 r (head_is all first r rs from) in
    let rest = different_from program plan all (suc first) rs os numbers (tail_is all first r rs from) (rw add-one at each.1) kept in
    inl (same, rest)
different_from program plan all first (r ∷ rs) (Some (Ok n) ∷ os) [] from each kept = cc
different_from {E} program plan all first (r ∷ rs) (Some (Ok n) ∷ os) (m ∷ ms) from each kept =
    let differs = each.0 r (head_is all first r rs from) in
    let number : n ≡ m = cc in
    let others : filter_map (λ o. o) os ≡ map {B = Result ℕ E} Ok ms = cc in
    let rest = different_from program plan all (suc first) rs os ms (tail_is all first r rs from) (rw add-one at each.1) others in
    inr (differs.1, (ms, ap (λ k. k ∷ ms) (sym number ∙ differs.0), rest))
different_from program plan all first (r ∷ rs) (Some (Err why) ∷ os) [] from each kept = cc
different_from program plan all first (r ∷ rs) (Some (Err why) ∷ os) (m ∷ ms) from each kept = cc

pub are_different : {E : Type 0} (program : List Class) (plan : Plan) (all : List JobResult) (found : List (Option (Result ℕ E))) (numbers : List ℕ)
    → AllZip (IsFindingAt program plan all) (range_with_len 0 (length all)) found → filter_map (λ o. o) found ≡ map Ok numbers
    → AreDifferent program plan 0 all numbers
are_different program plan all found numbers each kept =
    different_from program plan all 0 all found numbers (λ k r at. subst (λ j. slice_get all j ≡ Some r) (sym (zero-add k)) at) each kept
