-- The text is that of the threads before the index.
use Rattle.std.proofs.Common.{◌≡◌, ◌++◌, take, flat_map}
use Rattle.std.specs.String.{string_bytes}
use Rattle.machine_text.specs.Objects.{waiter_text}
use Rattle.machine_text.proofs.object.put_waiters.Given as goal

abbrev pub invariant-loop-thread : goal.invariant-loop-thread
invariant-loop-thread l = string_bytes l.out ≡ string_bytes l.initial.out ++ flat_map waiter_text (take l.thread-index l.threads)
