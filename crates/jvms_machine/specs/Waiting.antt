-- The methods `wait`, `notify` and `notifyAll` (JLS 17.2, Java SE API, `Object`). Each completes in the turn of its
-- call, except that a waiting thread continues after its notification. No thread is woken otherwise (own).
use Rattle.std.specs.Prelude.{ℕ, Bool, not, ◌==◌, if◌then◌else◌, List, ◌∷◌, map, Option, Some, None, codes}
use Rattle.std.specs.List.{filter, list_any}
use Rattle.std.specs.Map.{remove_entry}
use Rattle.jvms_machine.specs.declared.machine.Outcome.TheVariants as outcome
use Rattle.jvms_machine.specs.declared.machine.BlockedOn.TheVariants as blocked
use Rattle.jvms_machine.specs.declared.machine.Limits.{Limits}
use Rattle.jvms_machine.specs.declared.value.Value.{Value}
use Rattle.jvms_machine.specs.declared.value.Value.TheVariants as value
use Rattle.jvms_machine.specs.declared.state.Hold.{Hold}
use Rattle.jvms_machine.specs.declared.state.Wait.{Wait}
use Rattle.jvms_machine.specs.declared.action.Action.TheVariants as action
use Rattle.jvms_machine.specs.declared.action.Effect.TheVariants as effect
use Rattle.jvms_machine.specs.declared.action.Decision.TheVariants as decision
use Rattle.jvms_file.specs.Names.{same_text}
use Rattle.jvms_program.specs.declared.program.Method.{Method}
use Rattle.jvms_program.specs.declared.thrown.Thrown.TheVariants as thrown
use Rattle.jvms_machine.specs.Decisions.{TurnDecision, never_seen}
use Rattle.jvms_machine.specs.State.{State, Thread, Activation, monitor_at}
use Rattle.jvms_machine.specs.Exceptions.{throws}
use Rattle.jvms_machine.specs.Fields.{reaches, next_action}
use Rattle.jvms_machine.specs.Monitors.{with_hold}

-- ---- The changes by a wait

-- Frees the monitor of an object, whatever its entry count.
abbrev pub freed_monitor : ℕ → List (ℕ × Hold) → List (ℕ × Hold)
freed_monitor r monitors = remove_entry (λ q. q == r) monitors

-- Gives the monitor back to a thread, with the entry count from before its wait.
abbrev pub retaken_monitor : ℕ → Wait → List (ℕ × Hold) → List (ℕ × Hold)
retaken_monitor t w monitors = with_hold w.reference (record { owner = t; count = w.count }) monitors

-- Decides whether a thread waits and wasn't notified.
abbrev pub is_waiter : ℕ → List (ℕ × ℕ) → Bool
is_waiter t waiters = list_any (λ w. w.1 == t) waiters

-- Returns the threads that wait for an object, the longest wait first.
abbrev pub waiters_of : ℕ → List (ℕ × ℕ) → List ℕ
waiters_of r waiters = map (λ w. w.1) (filter (λ w. w.0 == r) waiters)

-- Removes the notified waiters: the one that has waited longest for the object, or all that wait for it.
abbrev pub without_notified : ℕ → Bool → List (ℕ × ℕ) → List (ℕ × ℕ)
without_notified r all waiters = if all then filter (λ w. not (w.0 == r)) waiters else remove_entry (λ q. q == r) waiters

-- ---- The turns

-- Decides a wait or a notification. Only the owner of the monitor, with its entry count, may wait and notify.
abbrev pub owner_decision : Limits → State → ℕ → Thread → Option Hold → (ℕ → TurnDecision) → TurnDecision
owner_decision limits s t thread None make = throws limits s thread thrown.IllegalMonitorStateException
owner_decision limits s t thread (Some h) make =
    if h.owner == t then make h.count else throws limits s thread thrown.IllegalMonitorStateException

abbrev pub waits_or_notifies : Activation → Method → ℕ → ℕ → TurnDecision
waits_or_notifies a m r count =
    if same_text m.name (codes "wait") then decision.Applies (action.Waits (record { reference = r; count = count }))
    else reaches (effect.Notifies r (same_text m.name (codes "notifyAll"))) (next_action 1 a)

-- Decides a call of `wait`, `notify` or `notifyAll` for the object on top.
abbrev pub object_native_decision : Limits → State → ℕ → Thread → Activation → Method → List Value → TurnDecision
object_native_decision limits s t thread a m (value.Reference r ∷ below) =
    owner_decision limits s t thread (monitor_at s.monitors r) (waits_or_notifies a m r)
object_native_decision limits s t thread a m _ = never_seen

-- Decides that a notified thread retakes the monitor, once it is free.
abbrev pub retake_decision : Wait → Option Hold → TurnDecision
retake_decision w (Some h) = decision.Stays (outcome.Blocked (blocked.Monitor w.reference h.owner))
retake_decision w None = decision.Applies (action.Retakes w)

-- Decides the turn of a waiting thread. The turn is blocked until the thread is notified and the monitor is free.
unfoldable pub waiting_decision : State → ℕ → Wait → TurnDecision
waiting_decision s t w =
    if is_waiter t s.waiters then decision.Stays (outcome.Blocked (blocked.Wait w.reference))
    else retake_decision w (monitor_at s.monitors w.reference)
