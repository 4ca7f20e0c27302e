-- What an exploration has found so far.
use Rattle.std.specs.Prelude.{◌≡◌, ℕ, ◌+◌, ◌-◌, ◌<◌, Bool, List, [], false, true, length, min, IfSome, Ok, Option, Some, is_some, slice_get}
use Rattle.explore_jobs.specs.Plans.{job_shown}
use Rattle.explore_jobs.specs.declared.plan.Plan.{Plan}
use Rattle.exploring.specs.Answers.{AreLevelRuns, IsFailingRun}
use Rattle.exploring.specs.Explorations.{Covers, Explored, first_failing, is_good, is_whole, level_in}
use Rattle.exploring.specs.Thorough.{FollowEachOther, are_good, are_whole, have_failing, is_followed, runs_of}
use Rattle.exploring.specs.declared.answer.Bounds.{Bounds}
use Rattle.exploring.specs.declared.answer.FailingRun.{FailingRun}
use Rattle.exploring.specs.declared.answer.LevelRuns.{LevelRuns}
use Rattle.exploring.specs.declared.answer.Search.{Search}
use Rattle.jvms_machine.specs.Opening.{start_of_entry}
use Rattle.jvms_machine.specs.Start.{Start}
use Rattle.jvms_program.specs.declared.program.Class.{Class}
use Rattle.program_runs.specs.Shown.{HasEnding}

-- The run is that of the level's job at a place.
pub record IsRunAt (e : Explored) (place : ℕ) (run : FailingRun) : Type 0 where
  pub job : slice_get e.jobs.jobs place ≡ Some run.departures.items
  pub long : length run.departures.items ≡ level_in e
  pub fate : slice_get e.fates place ≡ Some run.fate
  pub ending : HasEnding (job_shown e.program e.plan run.departures.items) run.ending

-- The run is that of the level's first job that fails, and no run with fewer departures fails.
pub record IsFirstFailing (e : Explored) (run : FailingRun) : Type 0 where
  pub place : ℕ
  pub first : first_failing e.fates ≡ Some place
  pub is : IsRunAt e place run
  pub least : (start : Start) → start_of_entry e.program e.plan.limits e.plan.entry ≡ Ok start → Covers e.program e.plan start (level_in e)

-- The levels are counted, from level 0 on, and the run that fails is the first.
pub record IsFoundFrom (program : List Class) (plan : Plan) (start : Start) (runs : List LevelRuns) (run : Option FailingRun) : Type 0 where
  pub levels : (level : ℕ) → IfSome (slice_get runs level) (AreLevelRuns program plan start level)
  pub failing : IfSome run (IsFailingRun program plan start)

-- This number of levels was run, and what was found is as it should be.
pub record IsSearch (count : ℕ) (search : Search) : Type 0 where
  pub counted : length search.levels.items ≡ count
  pub found : (start : Start) → start_of_entry search.exploration.program search.exploration.plan.limits search.exploration.plan.entry ≡ Ok start
      → IsFoundFrom search.exploration.program search.exploration.plan start search.levels.items search.failing

-- All levels below the exploration's were run.
abbrev pub IsBefore : Search → Type 0
IsBefore search = IsSearch (level_in search.exploration) search

-- The exploration's level was run too.
abbrev pub IsAfter : Search → Type 0
IsAfter search = IsSearch (level_in search.exploration + 1) search

-- Decides whether a run that fails is shown after a level: one that was shown before, or the level's first, unless one fails
-- below.
abbrev pub is_shown_after : Bool → Bool → Bool → Bool
is_shown_after before true true = true
is_shown_after before true false = before
is_shown_after before false fails = before

-- The levels so far follow each other, and it is known how many runs are left, and whether a run fails.
pub record IsThoroughTo (bounds : Bounds) (search : Search) : Type 0 where
  pub levels : FollowEachOther bounds search.levels.items
  pub left : search.left ≡ bounds.runs - runs_of search.levels.items
  pub failing : is_some search.failing ≡ have_failing search.levels.items

-- The exploration's level follows those that were run. None of its jobs was run, and as many are kept as there are, or as may
-- still be run.
pub record IsThoroughBefore (bounds : Bounds) (search : Search) : Type 0 where
  pub so_far : IsThoroughTo bounds search
  pub next : is_followed bounds search.levels.items ≡ true
  pub good : search.exploration.is_good_below ≡ are_good search.levels.items
  pub fates : search.exploration.fates ≡ []
  pub kept : 0 < search.left → length search.exploration.jobs.jobs ≡ min search.exploration.count search.left

-- The exploration's level is the last that was run.
pub record IsThoroughAfter (bounds : Bounds) (search : Search) : Type 0 where
  pub so_far : IsThoroughTo bounds search
  pub whole : is_whole search.exploration ≡ are_whole search.levels.items
  pub good : is_good search.exploration ≡ are_good search.levels.items

-- The program and the plan are the same.
pub record AreAlike (old new : Search) : Type 0 where
  pub program : new.exploration.program ≡ old.exploration.program
  pub plan : new.exploration.plan ≡ old.exploration.plan
