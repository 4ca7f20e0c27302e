-- The threads that a program starts (Java SE API, `Thread.start` and `Thread.join`). Each native method completes in
-- the turn of its call.
use Rattle.std.specs.Prelude.{ℕ, nat_lt, if◌then◌else◌, List, ◌∷◌, length, Option, Some, None, slice_get, codes}
use Rattle.std.specs.List.{position}
use Rattle.jvms_machine.specs.declared.machine.Outcome.TheVariants as outcome
use Rattle.jvms_machine.specs.declared.machine.BlockedOn.TheVariants as blocked
use Rattle.jvms_machine.specs.declared.machine.Limits.{Limits}
use Rattle.jvms_machine.specs.declared.value.Value.{Value}
use Rattle.jvms_machine.specs.declared.value.Value.TheVariants as value
use Rattle.jvms_machine.specs.declared.action.Effect.TheVariants as effect
use Rattle.jvms_machine.specs.declared.action.Decision.TheVariants as decision
use Rattle.jvms_file.specs.Names.{same_text}
use Rattle.jvms_program.specs.declared.program.Method.{Method}
use Rattle.jvms_program.specs.declared.thrown.Thrown.TheVariants as thrown
use Rattle.jvms_machine.specs.Decisions.{TurnDecision, never_seen}
use Rattle.jvms_machine.specs.State.{State, Thread, Activation, same_object}
use Rattle.jvms_machine.specs.Exceptions.{throws}
use Rattle.jvms_machine.specs.Fields.{reaches, next_action}

-- Returns the thread that was started by a Thread object.
abbrev pub thread_of : List Thread → ℕ → Option ℕ
thread_of threads r = position (λ thread. same_object thread.object (Some r)) threads

-- Decides the start of a Thread object. It tests that it wasn't started before, then the room for one more thread.
abbrev pub start_decision : Limits → State → Thread → Activation → ℕ → Option ℕ → TurnDecision
start_decision limits s thread a r (Some u) = throws limits s thread thrown.IllegalThreadStateException
start_decision limits s thread a r None =
    if nat_lt (length s.threads) limits.threads then reaches (effect.Starts r (length s.threads)) (next_action 1 a)
    else throws limits s thread thrown.OutOfMemoryError

-- Decides a join. The turn is blocked until the thread has ended. A thread that wasn't started isn't waited for.
abbrev pub join_decision : State → Activation → Option ℕ → TurnDecision
join_decision s a None = reaches effect.Nothing (next_action 1 a)
join_decision s a (Some u) = of_thread (slice_get s.threads u)
  where
    of_thread : Option Thread → TurnDecision
    of_thread None = never_seen
    of_thread (Some other) =
        if other.ended then reaches (effect.Joins u) (next_action 1 a) else decision.Stays (outcome.Blocked (blocked.Join u))

-- Decides a call of `start` or `join` for the Thread object on top.
abbrev pub thread_native_decision : Limits → State → Thread → Activation → Method → List Value → TurnDecision
thread_native_decision limits s thread a m (value.Reference r ∷ below) =
    if same_text m.name (codes "start") then start_decision limits s thread a r (thread_of s.threads r)
    else join_decision s a (thread_of s.threads r)
thread_native_decision limits s thread a m _ = never_seen
