-- Defines the runs of the parts of an exploration, counted together (own).
use Rattle.std.specs.Prelude.{◌≡◌, ◌≤◌, ◌+◌, ◌^◌, ◌⊎◌, ℕ, List, [], length, All, Any, IfSome, slice_get, slice_index_or}
use Rattle.std.specs.List.{sum_by}
use Rattle.exploring.specs.declared.answer.LevelRuns.{LevelRuns}
use Rattle.exploring.specs.declared.level.Level.{Level}
use Rattle.exploration_joins.specs.declared.count.Count.{Count}
use Rattle.exploration_joins.specs.declared.count.Count.TheVariants as count
use Rattle.exploration_joins.specs.declared.part.PartText.{PartText}

-- Returns a level without a run.
abbrev pub no_runs : ℕ → LevelRuns
no_runs level =
    record {
      level = record { departures = level; runs = 0; cycle = 0; uncaught = 0; deadlocked = 0; stalled = 0; running = 0 };
      jobs = 0;
    }

-- Returns what a count says of the runs of a level.
abbrev pub count_in : Count → LevelRuns → ℕ
count_in count.Runs runs = runs.level.runs
count_in count.Cycle runs = runs.level.cycle
count_in count.Uncaught runs = runs.level.uncaught
count_in count.Deadlocked runs = runs.level.deadlocked
count_in count.Stalled runs = runs.level.stalled
count_in count.Running runs = runs.level.running
count_in count.Jobs runs = runs.jobs

-- Returns the runs of a part at a level.
abbrev pub runs_at : ℕ → PartText → LevelRuns
runs_at level part = slice_index_or part.levels.items level (no_runs level)

-- Returns the sum of what a count says of the parts' runs at a level.
abbrev pub total : Count → ℕ → List PartText → ℕ
total count level parts = sum_by (λ part. count_in count (runs_at level part)) parts

-- Returns the runs of all parts at a level, counted together.
abbrev pub sum_at : ℕ → List PartText → LevelRuns
sum_at level parts =
    record {
      level = record {
        departures = level;
        runs = total count.Runs level parts;
        cycle = total count.Cycle level parts;
        uncaught = total count.Uncaught level parts;
        deadlocked = total count.Deadlocked level parts;
        stalled = total count.Stalled level parts;
        running = total count.Running level parts;
      };
      jobs = total count.Jobs level parts;
    }

-- Each part has this number of levels, or more.
abbrev pub HaveLevels : List PartText → ℕ → Type 0
HaveLevels parts levels = All (λ part. levels ≤ length part.levels.items) parts

-- This is the least number of levels that a part has, or 0 without a part.
pub record IsLeast (parts : List PartText) (levels : ℕ) : Type 0 where
  pub all : HaveLevels parts levels
  pub one : Any (λ part. length part.levels.items ≡ levels) parts ⊎ ((parts ≡ []) × (levels ≡ 0))

-- Each level is the sum of the parts' levels. There are as many as each part has.
pub record AreSums (parts : List PartText) (levels : List LevelRuns) : Type 0 where
  pub each : (level : ℕ) → IfSome (slice_get levels level) (λ runs. runs ≡ sum_at level parts)
  pub least : IsLeast parts (length levels)

-- A sum of the parts' runs at a level exceeds 2^64 - 1.
pub record IsBeyond (parts : List PartText) (level : ℕ) : Type 0 where
  pub count : Count
  pub beyond : 2 ^ 64 ≤ total count level parts

-- At a level that all parts have, a sum exceeds 2^64 - 1.
pub record AreTooMany (parts : List PartText) : Type 0 where
  pub level : ℕ
  pub have : HaveLevels parts (level + 1)
  pub beyond : IsBeyond parts level
