-- The properties of each decision in a sound state. Applied, it keeps the state sound, and it can be applied. The marks
-- among its items are those of pushed and popped calls, and its events of monitors and threads are true.
use Rattle.std.proofs.Common.{◌≡◌, ℕ, ◌==◌, List, [], length, Some, None, IsTrue, IfSome}
use Rattle.std.specs.List.{filter}
use Rattle.jvms_machine.specs.declared.machine.Limits.{Limits}
use Rattle.jvms_machine.specs.declared.state.Hold.{Hold}
use Rattle.jvms_machine.specs.declared.action.MonitorUse.{MonitorUse}
use Rattle.jvms_machine.specs.declared.action.Effect.{Effect}
use Rattle.jvms_machine.specs.declared.action.Effect.TheVariants as effect
use Rattle.jvms_machine.specs.declared.action.Action.TheVariants as action
use Rattle.jvms_machine.specs.declared.action.Decision.TheVariants as decision
use Rattle.jvms_program.specs.declared.program.Class.{Class}
use Rattle.jvms_program.specs.Program.{IsProgram}
use Rattle.jvms_machine.specs.Decisions.{TurnAction, TurnDecision}
use Rattle.jvms_machine.specs.State.{State, Sound, monitor_at}
use Rattle.jvms_machine.specs.Start.{Start}
use Rattle.jvms_machine.specs.Limits.{are_limits}
use Rattle.jvms_machine.specs.Marks.{calls_of, is_mark, marks_between}
use Rattle.jvms_machine.specs.Turn.{items_after, state_after, IsReadyToMake}
use Rattle.jvms_machine.proofs.MarkLaws.{unmarked}

-- The marks among the items of a decision are those of pushed and popped calls.
abbrev pub HasMarks : List Class → Start → State → ℕ → TurnDecision → Type 0
HasMarks program start s t d = filter is_mark (items_after program t d) ≡ marks_between program t (calls_of s t) (calls_of (state_after program start s t d) t)

-- A left monitor is held, and is free after it if and only if it was entered once.
abbrev pub IsLeft : State → MonitorUse → Type 0
IsLeft s monitor = (h : Hold) × (monitor_at s.monitors monitor.reference ≡ Some h) × (monitor.outermost ≡ (h.count == 1))

abbrev pub IsHeardEffect : State → Effect (List ℕ) → Type 0
IsHeardEffect s (effect.Unlocks monitor) = IsLeft s monitor
IsHeardEffect s (effect.Starts r u) = u ≡ length s.threads
IsHeardEffect s _ = Unit {0}

-- An action's events of left and retaken monitors, and of a started thread, are true.
abbrev pub IsHeard : State → TurnAction → Type 0
IsHeard s (action.Reaches what act) = IsHeardEffect s what
IsHeard s (action.Ends method result unlock) = IfSome unlock (IsLeft s)
IsHeard s (action.Returns method result unlock) = IfSome unlock (IsLeft s)
IsHeard s (action.Unwinds method last unlock) = IfSome unlock (IsLeft s)
IsHeard s (action.Waits w) = (h : Hold) × (monitor_at s.monitors w.reference ≡ Some h)
IsHeard s (action.Retakes w) = monitor_at s.monitors w.reference ≡ None
IsHeard s _ = Unit {0}

abbrev pub IsHeardOf : State → TurnDecision → Type 0
IsHeardOf s (decision.Applies act) = IsHeard s act
IsHeardOf s _ = Unit {0}

-- If the classes are a program, the state after the decision is sound. Within limits, the decision can be applied.
abbrev pub Keeps : List Class → Limits → Start → State → ℕ → TurnDecision → Type 0
Keeps program limits start s t d =
    (IsProgram program → Sound program limits (state_after program start s t d))
    × (IsProgram program → IsTrue (are_limits limits) → IsReadyToMake start s t d) × HasMarks program start s t d
    × (IsProgram program → IsHeardOf s d)

-- A turn that isn't taken keeps the state as it is.
pub still : {program : List Class} {limits : Limits} {s : State} (t : ℕ) → Sound program limits s → (IsProgram program → Sound program limits s) × (IsProgram program → IsTrue (are_limits limits) → Unit {0}) × ([] ≡ marks_between program t (calls_of s t) (calls_of s t)) × (IsProgram program → Unit {0})
still {program = program} {s = s} t sound = ((λ _. sound), (λ _ _. tt), unmarked program t (calls_of s t), (λ _. tt))
