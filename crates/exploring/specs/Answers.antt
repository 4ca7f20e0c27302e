-- What an exploration up to a bound finds.
use Rattle.std.specs.Prelude.{◌≡◌, ℕ, ◌+◌, List, length, take, IfSome, IsTrue, Ok, Some, slice_get}
use Rattle.explore_jobs.specs.Plans.{job_shown}
use Rattle.explore_jobs.specs.declared.fate.Fate.{Fate}
use Rattle.explore_jobs.specs.declared.plan.Plan.{Plan}
use Rattle.exploring.specs.Counts.{level_of}
use Rattle.exploring.specs.Explorations.{AreFatesOf, Covers, first_failing, jobs_at}
use Rattle.exploring.specs.declared.answer.Answer.{Answer}
use Rattle.exploring.specs.declared.answer.Bounds.{Bounds}
use Rattle.exploring.specs.declared.answer.FailingRun.{FailingRun}
use Rattle.exploring.specs.declared.answer.LevelRuns.{LevelRuns}
use Rattle.exploring.specs.Thorough.{IsThorough}
use Rattle.jvms_machine.specs.Opening.{start_of_entry}
use Rattle.jvms_machine.specs.Start.{Start}
use Rattle.jvms_program.specs.declared.program.Class.{Class}
use Rattle.program_runs.specs.Shown.{HasEnding}

module _ (program : List Class) (plan : Plan) (start : Start) where
  -- The runs of a level's first jobs were made, and ended so.
  abbrev pub AreFirstFates : ℕ → List Fate → Type 0
  AreFirstFates level fates = AreFatesOf program plan (take (length fates) (jobs_at program plan start level)) fates

  -- The runs of a level's first jobs are counted, and the number of its jobs is right.
  pub record AreLevelRuns (level : ℕ) (runs : LevelRuns) : Type 0 where
    pub fates : List Fate
    pub are : AreFirstFates level fates
    pub counted : runs.level ≡ level_of level fates
    pub jobs : runs.jobs ≡ length (jobs_at program plan start level)

  -- The run is the first of its level that fails. No run with fewer departures fails, of those that the plan covers.
  pub record IsFailingRun (run : FailingRun) : Type 0 where
    pub fates : List Fate
    pub place : ℕ
    pub are : AreFirstFates (length run.departures.items) fates
    pub first : first_failing fates ≡ Some place
    pub job : slice_get (jobs_at program plan start (length run.departures.items)) place ≡ Some run.departures.items
    pub fate : slice_get fates place ≡ Some run.fate
    pub ending : HasEnding (job_shown program plan run.departures.items) run.ending
    pub least : Covers program plan start (length run.departures.items)

  -- The levels are counted, from level 0 on, and no level, run or failing run is left out. A run that fails is the first, and
  -- where all is covered no run with at most as many departures as the bound fails, of those that the plan covers.
  pub record IsAnswer (bounds : Bounds) (answer : Answer) : Type 0 where
    pub levels : (level : ℕ) → IfSome (slice_get answer.levels.items level) (AreLevelRuns level)
    pub failing : IfSome answer.failing IsFailingRun
    pub covered : IsTrue answer.is_covered → Covers program plan start (bounds.departures + 1)
    pub thorough : IsThorough bounds answer

-- The answer is that of the program's exploration under a plan, up to these bounds.
abbrev pub IsAnswerTo : List Class → Plan → Bounds → Answer → Type 0
IsAnswerTo program plan bounds answer =
    (start : Start) → start_of_entry program plan.limits plan.entry ≡ Ok start → IsAnswer program plan start bounds answer
