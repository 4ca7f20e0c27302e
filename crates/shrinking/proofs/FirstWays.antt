-- The first way in which a job's run fails is that of the run, if it counts for a job.
use Rattle.std.proofs.Common.{Bool, None, Option, Some, ap, cond, false, nat_eq, refl, sym, true, ℕ, ◌&&◌, ◌∙◌, ◌≡◌}
use Rattle.explore_jobs.specs.campaign_jobs.Atomicities.{has_cycle}
use Rattle.explore_jobs.specs.declared.fate.Fate.{Fate}
use Rattle.shrinking.specs.Failures.{failure_of, failure_of_job, fails_by, is_of}
use Rattle.shrinking.specs.declared.failure.Failure.{Failure}
use Rattle.shrinking.specs.declared.failure.Failure.TheVariants as failure

-- Returns a way if it passes a test.
abbrev pub if_passes : (Failure → Bool) → Option Failure → Option Failure
if_passes test None = None
if_passes test (Some way) = cond (test way) (Some way) None

one_more : (test : Failure → Bool) (way : Failure) (rest found : Option Failure) (b : Bool) → test way ≡ b → rest ≡ if_passes test found → cond (test way) (Some way) rest ≡ if_passes test (cond b (Some way) found)
one_more test way rest found true is more = ap (λ (x : Bool). cond x (Some way) rest) is ∙ sym (ap (λ (x : Bool). cond x (Some way) None) is)
one_more test way rest found false is more = ap (λ (x : Bool). cond x (Some way) rest) is ∙ more

last : (test : Failure → Bool) (way : Failure) (b : Bool) → (b ≡ false → test way ≡ false) → cond (test way) (Some way) None ≡ if_passes test (cond b (Some way) None)
last test way true only = refl
last test way false only = ap (λ (x : Bool). cond x (Some way) None) (only refl)

pub first_of_job : (most : ℕ) (fate : Fate) → failure_of_job most fate ≡ if_passes (λ way. fails_by most way fate) (failure_of fate)
first_of_job most fate =
    let test = λ (way : Failure). fails_by most way fate in
    let running = last test failure.Running (is_of failure.Running fate) (λ off. ap (λ (b : Bool). b && nat_eq fate.result.turns most) off) in
    let stalled = one_more test failure.Stalled _ _ (is_of failure.Stalled fate) refl running in
    let deadlocked = one_more test failure.Deadlocked _ _ (is_of failure.Deadlocked fate) refl stalled in
    let uncaught = one_more test failure.Uncaught _ _ fate.has_uncaught refl deadlocked in
    one_more test failure.Cycle _ _ (has_cycle fate.result.atomicity) refl uncaught
