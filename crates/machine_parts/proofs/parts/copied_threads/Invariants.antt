use Rattle.std.proofs.Common.{◌≡◌, take}
use Rattle.machine_parts.proofs.parts.copied_threads.Given as goal

-- The copies are those of the threads before the index.
abbrev pub invariant-loop-thread : goal.invariant-loop-thread
invariant-loop-thread l = l.copies.items ≡ take l.thread-index l.threads
