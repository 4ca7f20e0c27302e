use Rattle.std.proofs.Common.{◌≡◌, take}
use Rattle.jvms_machine.specs.Waiting.{waiters_of}
use Rattle.monitors.proofs.waiters.Waiters.of.Given as goal

-- The list holds the threads before the index that wait for the object.
abbrev pub invariant-loop-waiter : goal.invariant-loop-waiter
invariant-loop-waiter l = l.threads.items ≡ waiters_of l.reference (take l.waiter-index l.waiters)
