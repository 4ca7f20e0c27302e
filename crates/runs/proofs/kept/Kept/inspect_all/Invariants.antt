-- The enabled threads that were found, followed by those that are left, are all.
use Rattle.std.proofs.Common.{◌++◌, ◌≡◌, length, true}
use Rattle.runs.proofs.KeptThreads.{AreFitBelow, enabled_left}
use Rattle.runs.proofs.kept.Kept.inspect_all.Given as goal
use Rattle.schedule.specs.Enabled.{enabled_threads}

abbrev pub invariant-loop-thread : goal.invariant-loop-thread
invariant-loop-thread l =
    record {
      end : l.thread-end ≡ length l.machine.state.threads;
      listed : l.self.threads.items ++ enabled_left l.machine l.thread ≡ enabled_threads l.machine;
      fit : l.self.is_current ≡ true → AreFitBelow l.machine l.thread;
      idle : l.self.idle.items ≡ l.fn.self.idle.items;
    }
