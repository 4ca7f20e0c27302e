-- Defines the text of a campaign's table (own): a line for each job, and a last one that counts the jobs shown.
use Rattle.std.specs.Prelude.{ℕ, suc, ◌-◌, Bool, List, [], ◌∷◌, ◌++◌, codes, count_by, length}
use Rattle.std.specs.Fmt.{decimal}
use Rattle.machine_text.specs.Outcomes.{status_text}
use Rattle.campaign_jobs.specs.declared.result.Atomicity.{Atomicity}
use Rattle.campaign_jobs.specs.declared.result.Atomicity.TheVariants as atomicity
use Rattle.campaign_jobs.specs.declared.result.JobResult.{JobResult}
use Rattle.campaign_jobs.specs.Atomicities.{has_cycle}

abbrev pub atomicity_text : Atomicity → List ℕ
atomicity_text atomicity.Atomic = codes "atomic"
atomicity_text (atomicity.Cycle first_at) = codes "cycle at " ++ decimal first_at

-- Returns the words `atomic status S turns N events M`, or `cycle at E status S turns N events M`.
abbrev pub result_text : JobResult → List ℕ
result_text r =
    atomicity_text r.atomicity ++ codes " status " ++ status_text r.status ++ codes " turns " ++ decimal r.turns ++ codes " events "
    ++ decimal r.events

-- Returns the line of a job: `job K`, and the words of its result.
abbrev pub job_line : ℕ → JobResult → List ℕ
job_line number r = codes "job " ++ decimal number ++ codes " " ++ result_text r ++ codes "\n"

-- Returns the lines of jobs, the first of which has this number.
abbrev pub job_lines : ℕ → List JobResult → List ℕ
job_lines number [] = []
job_lines number (r ∷ rs) = job_line number r ++ job_lines (suc number) rs

abbrev pub is_cycle : JobResult → Bool
is_cycle r = has_cycle r.atomicity

-- Returns the line `jobs N atomic A cycle C`.
abbrev pub totals_line : ℕ → ℕ → ℕ → List ℕ
totals_line jobs atomic cycle =
    codes "jobs " ++ decimal jobs ++ codes " atomic " ++ decimal atomic ++ codes " cycle " ++ decimal cycle ++ codes "\n"

-- Returns the text of a table whose first job has this number.
abbrev pub table_text : ℕ → List JobResult → List ℕ
table_text first results =
    let cycles = count_by is_cycle results in
    job_lines first results ++ totals_line (length results) (length results - cycles) cycles
