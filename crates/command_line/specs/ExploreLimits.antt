-- Defines how large the numbers of an exploration may be.
use Rattle.std.specs.Prelude.{◌^◌, ◌<◌, ◌≤◌, IfSome}
use Rattle.command_line.specs.declared.explore.ExploreWords.{ExploreWords}

-- The departures, the runs, the workers and the part of the words are within their limits.
pub record AreWithin (words : ExploreWords) : Type 0 where
  pub departures : words.departures ≤ 16
  pub some_run : 0 < words.runs
  pub runs : words.runs ≤ 10 ^ 9
  pub some_worker : 0 < words.workers
  pub workers : words.workers ≤ 64
  pub part : IfSome words.part (λ part. (part.index < part.count) × (part.count ≤ 10 ^ 6))
