-- Monitors (JVMS 2.11.10): their entry and exit. They are re-entrant. Entries and exits needn't be structured.
use Rattle.std.specs.Prelude.{ℕ, ◌+◌, ◌-◌, ◌==◌, nat_lt, Bool, true, false, not, if◌then◌else◌, List, [], ◌∷◌, Option, Some, None}
use Rattle.std.specs.Map.{remove_entry}
use Rattle.jvms_machine.specs.declared.machine.Outcome.TheVariants as outcome
use Rattle.jvms_machine.specs.declared.machine.BlockedOn.TheVariants as blocked
use Rattle.jvms_machine.specs.declared.machine.Limits.{Limits}
use Rattle.jvms_machine.specs.declared.state.Hold.{Hold}
use Rattle.jvms_machine.specs.declared.action.MonitorUse.{MonitorUse}
use Rattle.jvms_machine.specs.declared.action.Lock.{Lock}
use Rattle.jvms_machine.specs.declared.action.Lock.TheVariants as lock
use Rattle.jvms_machine.specs.declared.action.Action.TheVariants as action
use Rattle.jvms_machine.specs.declared.action.Decision.TheVariants as decision
use Rattle.jvms_program.specs.declared.number.MethodNumber.{MethodNumber}
use Rattle.jvms_program.specs.declared.program.Class.{Class}
use Rattle.jvms_program.specs.declared.program.Method.{Method}
use Rattle.jvms_program.specs.declared.thrown.Thrown.TheVariants as thrown
use Rattle.jvms_machine.specs.Decisions.{TurnDecision, never_seen}
use Rattle.jvms_machine.specs.State.{State, Thread, Frame, class_reference, monitor_at}
use Rattle.jvms_machine.specs.Heap.{class_name_at, next_reference}
use Rattle.jvms_machine.specs.Exceptions.{exception_of, throws, has_room_for}

-- ---- The held monitors

-- Sets the hold of a reference, in the order of the references.
abbrev pub with_hold : ℕ → Hold → List (ℕ × Hold) → List (ℕ × Hold)
with_hold r h [] = (r, h) ∷ []
with_hold r h (m ∷ monitors) =
    if r == m.0 then (r, h) ∷ monitors else (if nat_lt r m.0 then (r, h) ∷ m ∷ monitors else m ∷ with_hold r h monitors)

-- Returns the held monitors after a thread has entered the monitor of an object.
abbrev pub entered_monitor : ℕ → ℕ → List (ℕ × Hold) → List (ℕ × Hold)
entered_monitor t r monitors = with_hold r (once_more (monitor_at monitors r)) monitors
  where
    once_more : Option Hold → Hold
    once_more None = record { owner = t; count = 1 }
    once_more (Some h) = record { owner = h.owner; count = h.count + 1 }

-- Returns the held monitors after the owner has left the monitor of an object once.
abbrev pub left_monitor : ℕ → List (ℕ × Hold) → List (ℕ × Hold)
left_monitor r monitors = once_less (monitor_at monitors r)
  where
    once_less : Option Hold → List (ℕ × Hold)
    once_less None = monitors
    once_less (Some h) =
        if h.count == 1 then remove_entry (λ q. q == r) monitors
        else with_hold r (record { owner = h.owner; count = h.count - 1 }) monitors

-- ---- Entering and leaving

-- Decides the entry of an object's monitor. A monitor of another thread blocks the turn. One can't be entered more than
-- 4,294,967,295 times (own).
abbrev pub monitor_entry_by_hold : Limits → State → ℕ → Thread → ℕ → Option Hold → (MonitorUse → TurnDecision) → TurnDecision
monitor_entry_by_hold limits s t thread r None make = make (record { reference = r; outermost = true })
monitor_entry_by_hold limits s t thread r (Some h) make =
    if not (h.owner == t) then decision.Stays (outcome.Blocked (blocked.Monitor r h.owner))
    else (if h.count == 4294967295 then throws limits s thread thrown.OutOfMemoryError
    else make (record { reference = r; outermost = false }))

abbrev pub monitor_entry : Limits → State → ℕ → Thread → ℕ → (MonitorUse → TurnDecision) → TurnDecision
monitor_entry limits s t thread r make = monitor_entry_by_hold limits s t thread r (monitor_at s.monitors r) make

-- Returns how a thread leaves a monitor, if it is the owner.
abbrev pub monitor_exit_by_hold : ℕ → ℕ → Option Hold → Option MonitorUse
monitor_exit_by_hold t r None = None
monitor_exit_by_hold t r (Some h) = if h.owner == t then Some (record { reference = r; outermost = h.count == 1 }) else None

abbrev pub monitor_exit : State → ℕ → ℕ → Option MonitorUse
monitor_exit s t r = monitor_exit_by_hold t r (monitor_at s.monitors r)

-- ---- Synchronized methods

-- Decides the entry of the monitor of an existing object by a call.
abbrev pub object_locking : Limits → State → ℕ → Thread → Option ℕ → (Lock → TurnDecision) → TurnDecision
object_locking limits s t thread None make = never_seen
object_locking limits s t thread (Some r) make = monitor_entry limits s t thread r (λ monitor. make (lock.Monitor monitor))

-- Decides the entry of the monitor of a class's object by a call. The object is created at its first use.
abbrev pub class_locking : Limits → State → ℕ → Thread → ℕ → Option ℕ → (Lock → TurnDecision) → TurnDecision
class_locking limits s t thread class (Some r) make = monitor_entry limits s t thread r (λ monitor. make (lock.Monitor monitor))
class_locking limits s t thread class None make =
    if has_room_for 1 limits s then make (lock.NewClass class (next_reference s.heap))
    else throws limits s thread thrown.OutOfMemoryError

-- Decides what a call of a method enters: the monitor of the receiver, or of its class's object, if the method is
-- synchronized.
abbrev pub call_locking : List Class → Limits → State → ℕ → Thread → MethodNumber → Method → Option ℕ → (Lock → TurnDecision) → TurnDecision
call_locking program limits s t thread n m receiver make =
    if not m.flags.is_synchronized then make lock.Nothing
    else (if m.flags.is_static
    then class_locking limits s t thread n.class (class_reference s.heap (class_name_at program n.class)) make
    else object_locking limits s t thread receiver make)

-- Returns the object whose monitor a call holds with its frame.
abbrev pub locked_reference : Lock → Option ℕ
locked_reference lock.Nothing = None
locked_reference (lock.Monitor monitor) = Some monitor.reference
locked_reference (lock.NewClass class r) = Some r

-- ---- Popped calls

-- Decides how a call leaves the monitor of its frame, if it has one. A thread that isn't the owner can't.
abbrev pub frame_unlocking : State → ℕ → Option ℕ → TurnDecision → (Option MonitorUse → TurnDecision) → TurnDecision
frame_unlocking s t None fails make = make None
frame_unlocking s t (Some r) fails make = left (monitor_exit s t r)
  where
    left : Option MonitorUse → TurnDecision
    left None = fails
    left (Some monitor) = make (Some monitor)

abbrev pub is_empty : List Frame → Bool
is_empty [] = true
is_empty (f ∷ frames) = false

-- Returns the decision that the call of a method, above these frames, fails to leave its monitor.
abbrev pub fails_to_unlock : Limits → State → MethodNumber → List Frame → TurnDecision
fails_to_unlock limits s method below =
    decision.Applies (action.FailsToUnlock method (exception_of limits s thrown.IllegalMonitorStateException) (is_empty below))
