-- Explorations: the levels of jobs of a program, and how their runs end.
use Rattle.std.specs.Prelude.{◌≡◌, ℕ, zero, suc, ◌+◌, ◌≤◌, ◌<◌, Bool, true, ◌&&◌, ◌==◌, cond, List, [], ◌∷◌, length, take, IsTrue, Option, None, Some, Ok, is_none}
use Rattle.std.specs.List.{AllZip, position}
use Rattle.departures.specs.Departures.{choices_of}
use Rattle.departures.specs.Jobs.{IsIn, IsReduced, all_children, children_of, jobs_of}
use Rattle.departures.specs.declared.departure.Departure.{Departure}
use Rattle.exploration_parts.specs.Parts.{has_first, jobs_of_part, those_of}
use Rattle.exploration_parts.specs.declared.part.Part.{Part}
use Rattle.explore_jobs.specs.Fates.{IsFateOf, fails}
use Rattle.explore_jobs.specs.Plans.{fits}
use Rattle.explore_jobs.specs.Stays.{stays}
use Rattle.explore_jobs.specs.declared.fate.Fate.{Fate}
use Rattle.explore_jobs.specs.declared.plan.Plan.{Plan}
use Rattle.explore_laws.specs.Coverage.{EndsWell, IsWholeRun}
use Rattle.exploring.specs.Levels.{LevelJobs}
use Rattle.jvms_machine.specs.Opening.{opening, start_of_entry}
use Rattle.jvms_machine.specs.Start.{Start}
use Rattle.jvms_program.specs.declared.program.Class.{Class}
use Rattle.local_turns.specs.Turns.{turns_of}
use Rattle.velodrome.specs.Specification.{Specification}

-- An exploration on its way: the first jobs of a level, how many jobs the level has, how the first runs ended, and whether all
-- levels below are whole and have no run that fails.
pub record Explored : Type 0 where
  pub program : List Class
  pub plan : Plan
  pub jobs : LevelJobs
  pub count : ℕ
  pub fates : List Fate
  pub is_good_below : Bool

-- Returns the number of departures of each job.
abbrev pub level_in : Explored → ℕ
level_in e = e.jobs.each

-- Each fate is that of the job at its place.
abbrev pub AreFatesOf : List Class → Plan → List (List Departure) → List Fate → Type 0
AreFatesOf program plan jobs fates = AllZip (IsFateOf program plan) jobs fates

-- Returns the place of the first run that fails, if one does.
abbrev pub first_failing : List Fate → Option ℕ
first_failing fates = position fails fates

-- Decides whether all runs of a level were made.
abbrev pub is_whole : Explored → Bool
is_whole e = length e.fates == e.count

-- Decides whether all levels so far are whole, this one among them, and have no run that fails.
abbrev pub is_good : Explored → Bool
is_good e = e.is_good_below && is_whole e && is_none (first_failing e.fates)

-- Decides whether the job without a departure is run: it belongs to part 0.
abbrev pub has_first_job : Option Part → Bool
has_first_job None = true
has_first_job (Some part) = has_first part

-- Returns the jobs of level 0.
abbrev pub first_jobs : Option Part → List (List Departure)
first_jobs part = cond (has_first_job part) ([] ∷ []) []

module _ (program : List Class) (plan : Plan) (start : Start) where
  -- Returns the jobs of a level, in the order in which they are found: all, or those of a part.
  abbrev pub jobs_in : Option Part → ℕ → List (List Departure)
  jobs_in None level = jobs_of (turns_of program plan.limits start) (stays program plan.limits start plan.within) plan.most (opening program) 0 level
  jobs_in (Some part) level = jobs_of_part (turns_of program plan.limits start) (stays program plan.limits start plan.within) part plan.most (opening program) 0 level

  -- Returns the jobs of a level that the plan has.
  abbrev pub jobs_at : ℕ → List (List Departure)
  jobs_at level = jobs_in plan.part level

  -- Returns the children of a job, by position and thread.
  abbrev pub children_at : List Departure → List (List Departure)
  children_at departures = children_of (turns_of program plan.limits start) (stays program plan.limits start plan.within) plan.most (opening program) 0 departures

  -- Returns the children of all of these jobs.
  abbrev pub children_of_all : List (List Departure) → List (List Departure)
  children_of_all jobs = all_children (turns_of program plan.limits start) (stays program plan.limits start plan.within) plan.most (opening program) 0 jobs

  -- Returns the jobs of the next level, where these are those of this one: their children. A part has its own children of the
  -- job without a departure, which needn't be its own.
  abbrev pub next_jobs : Option Part → ℕ → List (List Departure) → List (List Departure)
  next_jobs None level jobs = children_of_all jobs
  next_jobs (Some part) zero jobs = those_of part 0 (children_at [])
  next_jobs (Some part) (suc level) jobs = children_of_all jobs

  -- The run of a job ends well.
  abbrev pub JobEndsWell : List Departure → Type 0
  JobEndsWell departures =
      EndsWell program plan.limits start plan.spec (opening program)
      (choices_of (turns_of program plan.limits start) plan.most 0 (opening program) 0 departures)

  -- The runs of all jobs below a level end well.
  abbrev pub JobsEndWellBelow : ℕ → Type 0
  JobsEndWellBelow end =
      (level : ℕ) → level < end → (departures : List Departure) → IsIn departures (jobs_at level) → JobEndsWell departures

  -- Each run that ends and has fewer departures than this number has no more turns than the plan's, and ends well: all threads
  -- have ended, none by an exception, and its events have no cycle.
  abbrev pub CoversBelow : ℕ → Type 0
  CoversBelow end =
      (most : ℕ) → most < end → (choices : List ℕ) → IsWholeRun program plan.limits start (opening program) most choices
      → (length choices ≤ plan.most) × EndsWell program plan.limits start plan.spec (opening program) choices

  -- So does each such run that leaves no thread where it stays. Nothing is said of the others.
  abbrev pub CoversStayingBelow : ℕ → Type 0
  CoversStayingBelow end =
      (most : ℕ) → most < end → (choices : List ℕ) → IsWholeRun program plan.limits start (opening program) most choices
      → IsReduced (turns_of program plan.limits start) (stays program plan.limits start plan.within) (opening program) 0 choices
      → (length choices ≤ plan.most) × EndsWell program plan.limits start plan.spec (opening program) choices

  -- Without a pattern all such runs are covered, and with patterns those that leave no thread where it stays. A part covers the
  -- runs of its own jobs.
  abbrev pub CoversWith : Option Part → Specification → ℕ → Type 0
  CoversWith None [] end = CoversBelow end
  CoversWith None (line ∷ lines) end = CoversStayingBelow end
  CoversWith (Some part) lines end = JobsEndWellBelow end

  -- What an exploration covers below a level.
  abbrev pub Covers : ℕ → Type 0
  Covers end = CoversWith plan.part plan.within end

-- The jobs are the first of their level, and the levels below end well if they are said to be good.
pub record IsAtLevel (e : Explored) (start : Start) : Type 0 where
  pub jobs : e.jobs.jobs ≡ take (length e.jobs.jobs) (jobs_at e.program e.plan start (level_in e))
  pub count : e.count ≡ length (jobs_at e.program e.plan start (level_in e))
  pub below : IsTrue e.is_good_below → JobsEndWellBelow e.program e.plan start (level_in e)

-- The plan fits the program, the jobs are the first of their level, and the fates are those of the first jobs.
pub record IsOnWay (e : Explored) : Type 0 where
  pub fits : IsTrue (fits e.program e.plan)
  pub fates : AreFatesOf e.program e.plan (take (length e.fates) e.jobs.jobs) e.fates
  pub level : (start : Start) → start_of_entry e.program e.plan.limits e.plan.entry ≡ Ok start → IsAtLevel e start

-- The next runs of the level were made, some or all.
pub record IsFurther (old new : Explored) : Type 0 where
  pub same : new ≡ record old { fates = new.fates }
  pub more : length old.fates < length new.fates

-- This is the next level, of whose jobs at most this number are kept. No run of it was made.
pub record IsNextLevel (room : ℕ) (old new : Explored) : Type 0 where
  pub program : new.program ≡ old.program
  pub plan : new.plan ≡ old.plan
  pub level : level_in new ≡ level_in old + 1
  pub fates : new.fates ≡ []
  pub below : new.is_good_below ≡ is_good old
  pub jobs : (start : Start) → start_of_entry new.program new.plan.limits new.plan.entry ≡ Ok start → new.jobs.jobs ≡ take room (jobs_at new.program new.plan start (level_in new))
  pub count : (start : Start) → start_of_entry new.program new.plan.limits new.plan.entry ≡ Ok start → new.count ≡ length (jobs_at new.program new.plan start (level_in new))
