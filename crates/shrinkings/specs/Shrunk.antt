-- Defines what is left of the departures of a schedule's run (own).
use Rattle.std.specs.Prelude.{◌≡◌, ℕ, false, true, List, IsTrue, Option, Some, Result, Ok, Err}
use Rattle.departures.specs.declared.departure.Departure.{Departure}
use Rattle.explore_jobs.specs.Fates.{IsFateOf}
use Rattle.explore_jobs.specs.Plans.{job_shown}
use Rattle.explore_jobs.specs.declared.fate.Fate.{Fate}
use Rattle.explore_jobs.specs.declared.plan.Plan.{Plan}
use Rattle.judge.specs.Programs.{NotRun}
use Rattle.jvms_program.specs.declared.program.Class.{Class}
use Rattle.judge.specs.program_runs.Shown.{HasEnding}
use Rattle.schedule.specs.Choosers.{Chooser}
use Rattle.shrinking.specs.Failures.{failure_of_job, fails_by}
use Rattle.shrinking.specs.Least.{IsLeast}
use Rattle.shrinking.specs.Parts.{IsPartOf}
use Rattle.shrinking.specs.declared.failure.Failure.{Failure}
use Rattle.shrinkings.specs.Programs.{NamesRun}
use Rattle.shrinkings.specs.Texts.{shrunk_text}
use Rattle.shrinkings.specs.declared.shrunk_run.ShrunkRun.{ShrunkRun}
use Rattle.trace.specs.Bytes.{AppendsBeginning}

module _ (program : List Class) (plan : Plan) where
  -- The run of the job with these departures fails, and this is the first way. Or it doesn't fail, and there is none.
  abbrev pub FailsFirst : List Departure → Option Failure → Type 0
  FailsFirst departures way =
      (fate : Fate) × IsFateOf program plan departures fate × (failure_of_job plan.most fate ≡ way)

  -- The departures that are left are some of the given ones. Their run has this fate and this ending, and fails in this
  -- way. No single one can be left out, unless the search was stopped: then it made this number of runs.
  pub record IsLeftOf (given : List Departure) (runs : ℕ) (shrunk : ShrunkRun) : Type 0 where
    pub part : IsPartOf shrunk.run.departures.items given
    pub fate : IsFateOf program plan shrunk.run.departures.items shrunk.run.fate
    pub ending : HasEnding (job_shown program plan shrunk.run.departures.items) shrunk.run.ending
    pub fails : fails_by plan.most shrunk.failure shrunk.run.fate ≡ true
    pub least : IsTrue shrunk.is_least → IsLeast program plan shrunk.failure shrunk.run.departures.items
    pub stops : shrunk.is_least ≡ false → shrunk.runs ≡ runs

  -- The given departures name the choices of a chooser's run, and their run fails first in this way. What is left of them
  -- fails in the same way.
  pub record IsShrunkOf (chooser : Chooser) (runs : ℕ) (shrunk : ShrunkRun) : Type 0 where
    pub given : List Departure
    pub named : NamesRun program plan chooser given
    pub first : FailsFirst given (Some shrunk.failure)
    pub left : IsLeftOf given runs shrunk

-- There is a program, and this is shrunk of the chooser's run of it.
abbrev pub IsShrunkIn : Plan → Chooser → ℕ → Result (List Class) NotRun → ShrunkRun → Type 0
IsShrunkIn plan chooser runs (Ok program) shrunk = IsShrunkOf program plan chooser runs shrunk
IsShrunkIn plan chooser runs (Err why) shrunk = ⊥

-- A prefix of the text of a shrunk run was written.
abbrev pub WroteBeginning : Plan → Chooser → ℕ → Result (List Class) NotRun → Option (List ℕ) → Option (List ℕ) → Type 0
WroteBeginning plan chooser runs said old new =
    (shrunk : ShrunkRun) × IsShrunkIn plan chooser runs said shrunk × AppendsBeginning old new (shrunk_text shrunk)
