-- Two results of jobs are equal in at most one way.
use Rattle.std.proofs.Common.{◌≡◌, ℕ, zero, suc, Option, Some, None, refl}
use Rattle.std.specs.Coded.{Coded, Coded-set, code_by, coded_option, coded_ℕ, coded×}
use Rattle.jvms_machine.specs.declared.machine.Status.{Status}
use Rattle.jvms_machine.specs.declared.machine.Status.TheVariants.{Finished, Running, Deadlocked, Stalled}
use Rattle.campaign_jobs.specs.declared.result.Atomicity.{Atomicity}
use Rattle.campaign_jobs.specs.declared.result.Atomicity.TheVariants.{Atomic, Cycle}
use Rattle.campaign_jobs.specs.declared.result.JobResult.{JobResult}

-- Returns the number of a status.
abbrev number_of : Status → ℕ
number_of Finished = 0
number_of Running = 1
number_of Deadlocked = 2
number_of Stalled = 3

-- Returns the status of a number.
abbrev status_of : ℕ → Status
status_of zero = Finished
status_of (suc zero) = Running
status_of (suc (suc zero)) = Deadlocked
status_of (suc (suc (suc n))) = Stalled

status_back : (s : Status) → status_of (number_of s) ≡ s
status_back Finished = refl
status_back Running = refl
status_back Deadlocked = refl
status_back Stalled = refl

-- Returns the number of events of the first cycle, if there is one.
abbrev cycle_of : Atomicity → Option ℕ
cycle_of Atomic = None
cycle_of (Cycle n) = Some n

-- Returns the atomicity with a first cycle at this number of events, if it is given.
abbrev atomicity_of : Option ℕ → Atomicity
atomicity_of None = Atomic
atomicity_of (Some n) = Cycle n

atomicity_back : (a : Atomicity) → atomicity_of (cycle_of a) ≡ a
atomicity_back Atomic = refl
atomicity_back (Cycle n) = refl

coded_status : Coded Status
coded_status = code_by ℕ coded_ℕ number_of status_of status_back

coded_atomicity : Coded Atomicity
coded_atomicity = code_by (Option ℕ) (coded_option coded_ℕ) cycle_of atomicity_of atomicity_back

coded_result : Coded JobResult
coded_result =
    code_by (Atomicity × (Status × (ℕ × ℕ))) (coded× coded_atomicity (coded× coded_status (coded× coded_ℕ coded_ℕ)))
    (λ r. (r.atomicity, (r.status, (r.turns, r.events))))
    (λ p. record { atomicity = p.0; status = p.1.0; turns = p.1.1.0; events = p.1.1.1 }) (λ r. refl)

pub same_prop : (r s : JobResult) → IsProp (r ≡ s)
same_prop r s = Coded-set coded_result r s
