-- The lines so far.
use Rattle.std.proofs.Common.{◌≡◌, ◌++◌, take, flat_map}
use Rattle.commands.specs.Lines.{uncaught_line}
use Rattle.commands.proofs.lines.ending_lines.Given as goal

abbrev pub invariant-loop-thread : goal.invariant-loop-thread
invariant-loop-thread l = l.lines.items ≡ l.initial.lines.items ++ flat_map uncaught_line (take l.thread-index l.ending.uncaught)
