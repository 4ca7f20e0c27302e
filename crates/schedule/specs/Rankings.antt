-- The priorities that contracts see of the fields that keep them.
use Rattle.std.specs.Prelude.{ℕ, ◌<◌, ◌≤◌, drop, take, Option, None, Some}
use Rattle.rand_pcg.specs.Lcg.{Lcg, increment_of}
use Rattle.schedule.specs.declared.ranked.Rank.{Rank}
use Rattle.schedule.specs.declared.ranked.Ranked.TheInside.{Inside}
use Rattle.schedule.specs.Choosers.{Ranking}

-- Returns the generator with this state and this stream.
abbrev pub generator_at : ℕ → ℕ → Lcg
generator_at state stream = record { state = state; increment = increment_of 64 stream }

-- Returns the priorities that contracts see.
abbrev pub ranking_seen : Inside → Ranking
ranking_seen r =
    record {
      changes = take r.left r.changes;
      moved = drop r.top r.moved;
      least = r.least;
      generator = generator_at r.state r.stream;
    }

-- There is room for the threads that the changes that are left move, and for one more.
abbrev pub HasRoom : Inside → Type 0
HasRoom r = (r.left < r.top) × (r.top ≤ 64)

-- Returns the thread, if there is one.
abbrev pub thread_of : Option Rank → Option ℕ
thread_of None = None
thread_of (Some rank) = Some rank.thread
