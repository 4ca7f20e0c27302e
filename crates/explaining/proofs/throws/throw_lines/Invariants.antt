-- The lines so far, and those of the threads that are left.
use Rattle.std.proofs.Common.{◌≡◌, ◌++◌, drop}
use Rattle.std.specs.String.{string_bytes}
use Rattle.explaining.specs.Throws.{throw_lines}
use Rattle.explaining.proofs.throws.throw_lines.Given as goal

abbrev pub invariant-loop-thread : goal.invariant-loop-thread
invariant-loop-thread l =
    string_bytes l.lines
    ++ throw_lines l.sources.first l.sources.files.now l.opening l.choices (drop l.thread-index l.uncaught)
    ≡ throw_lines l.sources.first l.sources.files.now l.opening l.choices l.uncaught
