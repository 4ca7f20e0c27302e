-- The fate of a job is how its run ended, and the verdict of a checker on its items.
use Rattle.std.proofs.Common.{Bool, List, ap, length, ℕ, ◌∙◌, ◌≡◌}
use Rattle.std.specs.Prelude.{Err, Ok, Result, nat_lt}
use Rattle.atom_graph.specs.Checking.{Fed, state_of_fed}
use Rattle.campaign_jobs.proofs.JobResults.{result_is}
use Rattle.campaign_jobs.specs.Atomicities.{atomicity_of}
use Rattle.explore_jobs.specs.Fates.{IsFateIn}
use Rattle.jvms_machine.specs.Opening.{StartFault}
use Rattle.campaign_jobs.specs.program_runs.Judgements.{IsFedWith}
use Rattle.campaign_jobs.specs.program_runs.Shown.{HasEnding, Shown}
use Rattle.campaign_jobs.specs.declared.runs.Ending.{Ending}
use Rattle.velodrome.specs.Specification.{Specification}
use Rattle.velodrome.specs.Verdicts.{IsVerdict}
use Rattle.velodrome.specs.declared.verdict.Verdict.{Verdict}

pub fate_is : (lines : Specification) (shown : Result Shown StartFault) (ending : Ending) (fed : Fed) (v : Verdict) (events : ℕ) (uncaught : Bool)
    → HasEnding shown ending → IsFedWith shown lines fed → IsVerdict (state_of_fed fed) v → events ≡ length (state_of_fed fed).events → uncaught ≡ nat_lt 0 (length ending.uncaught)
    → IsFateIn lines shown (record { result = record { atomicity = atomicity_of v; status = ending.status; turns = ending.turns; events = events }; has_uncaught = uncaught })
fate_is lines (Err why) ending fed v events uncaught ends fed_is is count any = absurd ends
fate_is lines (Ok shown) ending fed v events uncaught ends fed_is is count any =
    record {
      result = result_is lines (Ok shown) ending fed v events ends fed_is is count;
      uncaught = any ∙ ap (λ (e : Ending). nat_lt 0 (length e.uncaught)) ends;
    }
