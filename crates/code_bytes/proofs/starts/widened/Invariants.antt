-- The starts so far, followed by the remaining ones, are all.
use Rattle.std.proofs.Common.{◌≡◌, ◌++◌, drop}
use Rattle.code_bytes.proofs.starts.widened.Given as goal

abbrev pub invariant-loop-start : goal.invariant-loop-start
invariant-loop-start l = l.wide ++ drop l.start-index l.starts ≡ l.starts
