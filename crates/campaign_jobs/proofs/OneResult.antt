-- A job has at most one result.
use Rattle.std.proofs.Common.{◌≡◌, ℕ, Bool, true, false, nat_lt, List, take, refl, sym, ap, ◌∙◌, arith}
use Rattle.std.proofs.Math.Logic.{∥∥₁_elim}
use Rattle.std.proofs.lemmas.Bool.Decides.{nat_tests}
use Rattle.std.specs.Prelude.{Result, Ok, Err}
use Rattle.jvms_program.specs.declared.program.Class.{Class}
use Rattle.jvms_machine.specs.Opening.{StartFault}
use Rattle.atom_order.proofs.Cycle.{taken}
use Rattle.atom_order.proofs.Edges.{cycle_within}
use Rattle.velodrome.specs.Cycles.{IsCycle, IsFirstAt}
use Rattle.velodrome.specs.Specification.{Specification}
use Rattle.velodrome.specs.Transactions.{Event, trace_state_of}
use Rattle.program_runs.specs.Shown.{Shown}
use Rattle.campaign_jobs.specs.declared.plan.Plan.{Plan}
use Rattle.campaign_jobs.specs.declared.result.Atomicity.{Atomicity}
use Rattle.campaign_jobs.specs.declared.result.Atomicity.TheVariants as atomicity
use Rattle.campaign_jobs.specs.declared.result.JobResult.{JobResult}
use Rattle.campaign_jobs.specs.Atomicities.{IsAtomicityOf}
use Rattle.campaign_jobs.proofs.JobCodes.{same_prop}
use Rattle.campaign_jobs.specs.Reports.{IsResultIn, IsResultOf, job_shown}

-- A cycle of the first events is a cycle of all.
cycle_taken : (events : List Event) (n : ℕ) (transactions : List ℕ) → IsCycle (take n events) transactions → IsCycle events transactions
cycle_taken events n transactions cycle = cycle_within (take n events) events transactions (λ e h. taken n events e h) cycle

same_first : (events : List Event) (n m : ℕ) (b c : Bool) → nat_lt n m ≡ b → nat_lt m n ≡ c → IsFirstAt events n → IsFirstAt events m → n ≡ m
same_first events n m true c less other first second = absurd (second.1 n (grind (arith, nat_tests)) first.0.0 first.0.1)
same_first events n m false true other less first second = absurd (first.1 m (grind (arith, nat_tests)) second.0.0 second.0.1)
same_first events n m false false other another first second = grind (arith, nat_tests)

one_atomicity : (events : List Event) (a b : Atomicity) → IsAtomicityOf events a → IsAtomicityOf events b → a ≡ b
one_atomicity events atomicity.Atomic atomicity.Atomic first second = refl
one_atomicity events atomicity.Atomic (atomicity.Cycle m) first second = absurd (first second.0.0 (cycle_taken events m second.0.0 second.0.1))
one_atomicity events (atomicity.Cycle n) atomicity.Atomic first second = absurd (second first.0.0 (cycle_taken events n first.0.0 first.0.1))
one_atomicity events (atomicity.Cycle n) (atomicity.Cycle m) first second =
    ap atomicity.Cycle (same_first events n m (nat_lt n m) (nat_lt m n) refl refl first second)

same_parts : (r s : JobResult) → r.atomicity ≡ s.atomicity → r.status ≡ s.status → r.turns ≡ s.turns → r.events ≡ s.events → r ≡ s
same_parts r s atomicity_is status_is turns_is events_is =
    ap (λ x. record { atomicity = x; status = r.status; turns = r.turns; events = r.events }) atomicity_is
    ∙ ap (λ x. record { atomicity = s.atomicity; status = x; turns = r.turns; events = r.events }) status_is
    ∙ ap (λ x. record { atomicity = s.atomicity; status = s.status; turns = x; events = r.events }) turns_is
    ∙ ap (λ x. record { atomicity = s.atomicity; status = s.status; turns = s.turns; events = x }) events_is

one_in : (lines : Specification) (shown : Result Shown StartFault) (r s : JobResult) → IsResultIn lines shown r → IsResultIn lines shown s → r ≡ s
one_in lines (Err why) r s first second = absurd first
one_in lines (Ok shown) r s first second =
    same_parts r s (one_atomicity (trace_state_of lines shown.items).events r.atomicity s.atomicity first.atomicity second.atomicity)
    (first.status ∙ sym second.status) (first.turns ∙ sym second.turns) (first.events ∙ sym second.events)

pub is_one : (program : List Class) (plan : Plan) (number : ℕ) (r s : JobResult) → IsResultOf program plan number r → IsResultOf program plan number s → r ≡ s
is_one program plan number r s first second =
    ∥∥₁_elim first (same_prop r s) (λ a. ∥∥₁_elim second (same_prop r s) (λ b. one_in plan.spec (job_shown program plan number) r s a b))
