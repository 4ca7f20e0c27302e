-- No turn was taken yet, and nothing has changed but the marks of idle threads.
use Rattle.std.proofs.Common.{◌≡◌}
use Rattle.runs.specs.Kept.{IsKept}
use Rattle.runs.proofs.turn.take_candidate.Given as goal

abbrev pub invariant-loop : goal.invariant-loop
invariant-loop l =
    record {
      machine : l.machine ≡ l.fn.machine;
      chooser : l.chooser ≡ l.fn.chooser;
      items : l.recording ≡ l.fn.recording;
      kept : IsKept l.machine l.kept;
    }
