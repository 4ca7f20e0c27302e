-- Which levels an exploration up to bounds runs, how many of their jobs, and what it says of them: all by the numbers of its
-- answer.
use Rattle.std.specs.Prelude.{◌≡◌, ℕ, ◌+◌, ◌-◌, ◌==◌, Bool, true, false, not, ◌&&◌, ◌||◌, List, IfSome, is_some, length, min, nat_le, nat_lt, slice_get, take}
use Rattle.std.specs.List.{list_all, list_any, sum_by}
use Rattle.exploring.specs.declared.answer.Answer.{Answer}
use Rattle.exploring.specs.declared.answer.Bounds.{Bounds}
use Rattle.exploring.specs.declared.answer.LevelRuns.{LevelRuns}
use Rattle.exploring.specs.declared.level.Level.{Level}

-- Decides whether runs of a level are counted that fail in some way.
abbrev pub counts_failing : Level → Bool
counts_failing level = nat_lt 0 (level.cycle + level.uncaught + level.deadlocked + level.stalled + level.running)

-- Decides whether all jobs of each of these levels were run.
abbrev pub are_whole : List LevelRuns → Bool
are_whole levels = list_all (λ runs. runs.level.runs == runs.jobs) levels

-- Decides whether a run of these levels fails.
abbrev pub have_failing : List LevelRuns → Bool
have_failing levels = list_any (λ runs. counts_failing runs.level) levels

-- Decides whether all jobs of these levels were run, and none fails.
abbrev pub are_good : List LevelRuns → Bool
are_good levels = are_whole levels && not (have_failing levels)

-- Returns the number of runs of these levels.
abbrev pub runs_of : List LevelRuns → ℕ
runs_of levels = sum_by (λ runs. runs.level.runs) levels

-- Decides whether a level follows these: there are no more of them than the greatest number of departures, they are whole,
-- and no run of them fails, unless all levels are asked for.
abbrev pub is_followed : Bounds → List LevelRuns → Bool
is_followed bounds levels =
    nat_le (length levels) bounds.departures && are_whole levels && (bounds.all || not (have_failing levels))

-- The level follows those before it. As many of its jobs were run as there are, or as these leave of the runs.
pub record IsNextOf (bounds : Bounds) (before : List LevelRuns) (runs : LevelRuns) : Type 0 where
  pub follows : is_followed bounds before ≡ true
  pub made : runs.level.runs ≡ min runs.jobs (bounds.runs - runs_of before)

-- Each level follows those before it.
abbrev pub FollowEachOther : Bounds → List LevelRuns → Type 0
FollowEachOther bounds levels = (level : ℕ) → IfSome (slice_get levels level) (IsNextOf bounds (take level levels))

-- Each level follows those before it, and none follows the last. A run that fails is shown just where there is one. All is
-- covered just where the levels are those up to the bound, their jobs were all run, and none fails.
pub record IsThorough (bounds : Bounds) (answer : Answer) : Type 0 where
  pub levels : FollowEachOther bounds answer.levels.items
  pub last : is_followed bounds answer.levels.items ≡ false
  pub failing : is_some answer.failing ≡ have_failing answer.levels.items
  pub covered : answer.is_covered ≡ (length answer.levels.items == bounds.departures + 1 && are_good answer.levels.items)
