-- A job has one test.
use mathlib.Core.Bool.{Bool-set}
use Rattle.std.proofs.Common.{Bool, List, ap, nat_eq, refl, sym, take, ℕ, ◌∙◌, ◌≡◌}
use Rattle.std.proofs.Math.Logic.{∥∥₁_elim}
use Rattle.std.specs.Prelude.{Err, Ok, Result, ◌&&◌}
use Rattle.atom_order.proofs.Cycle.{taken}
use Rattle.atom_order.proofs.Edges.{cycle_within}
use Rattle.explore_jobs.specs.campaign_jobs.Atomicities.{IsAtomicityOf, has_cycle}
use Rattle.explore_jobs.specs.declared.campaign_jobs.Atomicity.{Atomicity}
use Rattle.explore_jobs.specs.declared.campaign_jobs.Atomicity.TheVariants as atomicity
use Rattle.departures.specs.declared.departure.Departure.{Departure}
use Rattle.explore_jobs.specs.Fates.{IsFateIn}
use Rattle.explore_jobs.specs.Plans.{job_shown}
use Rattle.explore_jobs.specs.declared.fate.Fate.{Fate}
use Rattle.explore_jobs.specs.declared.plan.Plan.{Plan}
use Rattle.jvms_machine.specs.Opening.{StartFault}
use Rattle.jvms_program.specs.declared.program.Class.{Class}
use Rattle.explore_jobs.specs.program_runs.Shown.{Shown}
use Rattle.shrinking.specs.Failures.{fails_by, is_of_status}
use Rattle.shrinking.specs.Least.{IsTestOf}
use Rattle.shrinking.specs.declared.failure.Failure.{Failure}
use Rattle.shrinking.specs.declared.failure.Failure.TheVariants as failure
use Rattle.velodrome.specs.Cycles.{IsCycle}
use Rattle.velodrome.specs.Specification.{Specification}
use Rattle.velodrome.specs.Transactions.{Event, trace_state_of}

cycle_taken : (events : List Event) (n : ℕ) (transactions : List ℕ) → IsCycle (take n events) transactions → IsCycle events transactions
cycle_taken events n transactions cycle = cycle_within (take n events) events transactions (λ e h. taken n events e h) cycle

same_cycle : (events : List Event) (a b : Atomicity) → IsAtomicityOf events a → IsAtomicityOf events b → has_cycle a ≡ has_cycle b
same_cycle events atomicity.Atomic atomicity.Atomic first second = refl
same_cycle events atomicity.Atomic (atomicity.Cycle m) first second = absurd (first second.0.0 (cycle_taken events m second.0.0 second.0.1))
same_cycle events (atomicity.Cycle n) atomicity.Atomic first second = absurd (second first.0.0 (cycle_taken events n first.0.0 first.0.1))
same_cycle events (atomicity.Cycle n) (atomicity.Cycle m) first second = refl

by_way : (most : ℕ) (way : Failure) (a b : Fate) → has_cycle a.result.atomicity ≡ has_cycle b.result.atomicity → a.has_uncaught ≡ b.has_uncaught → a.result.status ≡ b.result.status → a.result.turns ≡ b.result.turns
    → fails_by most way a ≡ fails_by most way b
by_way most failure.Cycle a b cycle uncaught status turns = cycle
by_way most failure.Uncaught a b cycle uncaught status turns = uncaught
by_way most failure.Deadlocked a b cycle uncaught status turns = ap (is_of_status failure.Deadlocked) status
by_way most failure.Stalled a b cycle uncaught status turns = ap (is_of_status failure.Stalled) status
by_way most failure.Running a b cycle uncaught status turns =
    ap (λ s. is_of_status failure.Running s && nat_eq a.result.turns most) status
    ∙ ap (λ n. is_of_status failure.Running b.result.status && nat_eq n most) turns

in_run : (lines : Specification) (shown : Result Shown StartFault) (most : ℕ) (way : Failure) (a b : Fate) → IsFateIn lines shown a → IsFateIn lines shown b → fails_by most way a ≡ fails_by most way b
in_run lines (Err why) most way a b first second = absurd first
in_run lines (Ok shown) most way a b first second =
    by_way most way a b (same_cycle (trace_state_of lines shown.items).events a.result.atomicity b.result.atomicity first.result.atomicity second.result.atomicity)
    (first.uncaught ∙ sym second.uncaught) (first.result.status ∙ sym second.result.status) (first.result.turns ∙ sym second.result.turns)

pub one_test : (program : List Class) (plan : Plan) (way : Failure) (departures : List Departure) (first second : Bool) → IsTestOf program plan way departures first → IsTestOf program plan way departures second → first ≡ second
one_test program plan way departures first second (a, a_is, a_fails) (b, b_is, b_fails) =
    let same = Bool-set (fails_by plan.most way a) (fails_by plan.most way b) in
    let shown = job_shown program plan departures in
    sym a_fails ∙ (∥∥₁_elim a_is same (λ x. ∥∥₁_elim b_is same (λ y. in_run plan.spec shown plan.most way a b x y)) ∙ b_fails)
