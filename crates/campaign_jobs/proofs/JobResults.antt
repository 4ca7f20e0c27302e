-- The verdict of a checker on the items of a job is the job's result.
use Rattle.std.proofs.Common.{◌≡◌, ℕ, List, length, ap, ◌∙◌, subst, Option}
use Rattle.std.specs.Prelude.{Result, Ok, Err, IfOk, MatchOption}
use Rattle.jvms_machine.specs.Opening.{StartFault}
use Rattle.velodrome.specs.declared.verdict.Verdict.{Verdict}
use Rattle.velodrome.specs.declared.verdict.Verdict.TheVariants as verdict
use Rattle.velodrome.specs.Cycles.{AreAtomic, IsCycle}
use Rattle.velodrome.specs.Rearrangements.{IsRearrangement, IsSerial}
use Rattle.velodrome.specs.Specification.{Specification}
use Rattle.velodrome.specs.Transactions.{TraceState}
use Rattle.velodrome.specs.Verdicts.{IsVerdict}
use Rattle.program_runs.specs.atom_graph.Checking.{Fed, state_of_fed}
use Rattle.program_runs.specs.declared.runs.Ending.{Ending}
use Rattle.program_runs.specs.Judgements.{IsFedWith}
use Rattle.program_runs.specs.Shown.{HasEnding, Shown}
use Rattle.campaign_jobs.specs.Atomicities.{IsAtomicityOf, atomicity_of}
use Rattle.campaign_jobs.specs.Reports.{HasNoneIn, IsResultIn, IsSerialIn}

verdict_is : (w : TraceState) (v : Verdict) → IsVerdict w v → IsAtomicityOf w.events (atomicity_of v)
verdict_is w (verdict.Atomic order) is = is.0
verdict_is w (verdict.Cycle first_at transactions pairs) is = is.0

pub result_is : (lines : Specification) (shown : Result Shown StartFault) (ending : Ending) (fed : Fed) (v : Verdict) (events : ℕ)
    → HasEnding shown ending → IsFedWith shown lines fed → IsVerdict (state_of_fed fed) v → events ≡ length (state_of_fed fed).events
    → IsResultIn lines shown (record { atomicity = atomicity_of v; status = ending.status; turns = ending.turns; events = events })
result_is lines (Err why) ending fed v events ends fed_is is count = absurd ends
result_is lines (Ok shown) ending fed v events ends fed_is is count =
    record {
      atomicity = subst (λ (f : Fed). IsAtomicityOf (state_of_fed f).events (atomicity_of v)) fed_is (verdict_is (state_of_fed fed) v is);
      status = ap (λ (e : Ending). e.status) ends;
      turns = ap (λ (e : Ending). e.turns) ends;
      events = count ∙ ap (λ (f : Fed). length (state_of_fed f).events) fed_is;
    }

-- With memory, the result is a serial order of the events that were fed, or they have a cycle and no rearrangement
-- is serial.
abbrev Says : {V E : Type 0} → (V → List ℕ) → Result (Option V) E → Fed → Type 0
Says items r fed =
    IfOk r (λ o. MatchOption o
    (((ts : List ℕ) × IsCycle (state_of_fed fed).events ts) × ((numbers : List ℕ) → IsRearrangement (state_of_fed fed).events numbers → ⊥))
    (λ v. AreAtomic (state_of_fed fed).events × IsSerial (state_of_fed fed).events (items v)))

pub serial_is : {V E : Type 0} → (items : V → List ℕ) (r : Result (Option V) E) (lines : Specification) (shown : Result Shown StartFault) (fed : Fed)
    → IsFedWith shown lines fed → Says items r fed → IfOk r (λ o. MatchOption o (HasNoneIn lines shown) (λ v. IsSerialIn lines shown (items v)))
serial_is items r lines (Err why) fed fed_is says = absurd fed_is
serial_is items r lines (Ok shown) fed fed_is says = subst (λ (f : Fed). Says items r f) fed_is says
