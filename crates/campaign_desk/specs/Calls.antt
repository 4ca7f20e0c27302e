-- Defines what `open` and `claim` return.
use Rattle.std.specs.Prelude.{◌≡◌, ℕ, ◌<◌, ◌≤◌, All, false, ◌⊎◌, Result, Ok, Err}
use Rattle.campaign_desk.specs.declared.fault.DeskFault.{DeskFault}
use Rattle.campaign_desk.specs.declared.fault.DeskFault.TheVariants as fault
use Rattle.campaign_desk.specs.declared.seat.Claim.{Claim}
use Rattle.campaign_desk.specs.declared.seat.Claim.TheVariants.{Job, Done}
use Rattle.campaign_desk.specs.declared.knowledge.Knowledge.{Knowledge}
use Rattle.campaign_desk.specs.Limits.{most_jobs, most_workers, FitsLimits}
use Rattle.campaign_desk.specs.Knowledge.{after_done, after_draw}

-- The limit on jobs is tested first, then that on workers. Memory is allocated only within both.
abbrev pub KeepsLimits : {X : Type 0} → ℕ → ℕ → Result X DeskFault → Type 0
KeepsLimits jobs workers (Ok x) = FitsLimits jobs workers
KeepsLimits jobs workers (Err fault.TooManyJobs) = most_jobs < jobs
KeepsLimits jobs workers (Err fault.TooManyWorkers) =
    (jobs ≤ most_jobs) × ((workers ≡ 0) ⊎ (most_workers < workers))
KeepsLimits jobs workers (Err fault.Memory) = FitsLimits jobs workers

-- A seat that isn't done yet gets a job above all that it had drawn, or learns that no job is left.
abbrev pub IsClaim : ℕ → Claim → Knowledge → Knowledge → Type 0
IsClaim jobs (Job number) old new =
    (new ≡ after_draw old number) × (number < jobs)
    × All (λ x. x < number) old.draws × (old.is_done ≡ false)
IsClaim jobs Done old new = new ≡ after_done old
