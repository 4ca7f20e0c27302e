-- The search is on its way, and no more runs were made than it may make.
use Rattle.std.proofs.Common.{false, length, ◌-◌, ◌<◌, ◌≡◌, ◌≤◌}
use Rattle.shrinking.specs.Searches.{IsOnWay}
use Rattle.shrinking.proofs.search.shrink.Given as goal

abbrev pub invariant-loop-shrunk : goal.invariant-loop-shrunk
invariant-loop-shrunk l =
    record {
      way : IsOnWay l.program l.plan l.failure l.fn.departures.items l.pass l.shrunk;
      from : l.shrunk.is_least ≡ false → l.pass.from < length l.shrunk.departures.items;
      runs : l.shrunk.runs ≤ l.runs;
    }

abbrev pub decreases-loop-shrunk : goal.decreases-loop-shrunk
decreases-loop-shrunk l = l.runs - l.shrunk.runs
