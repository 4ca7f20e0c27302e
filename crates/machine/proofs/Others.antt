-- Quiet turns leave the other threads as enabled as they were.
use Rattle.std.proofs.Common.{List, None, Option, ap, false, refl, subst, sym, true, ℕ, ◌∙◌, ◌≡◌}
use Rattle.std.specs.Borrow.{Bor}
use Rattle.std.specs.Prelude.{◌≢◌, Err, IfOk, Ok, OnOk, Result}
use Rattle.enabled_laws.proofs.QuietTurns.{quiet_leaves_enabled}
use Rattle.enabled_laws.specs.Quiet.{is_quiet, is_quiet_decision, is_quiet_effect}
use Rattle.jvms_machine.specs.declared.action.Action.{Action}
use Rattle.jvms_machine.specs.declared.action.Action.TheVariants as action
use Rattle.jvms_machine.specs.declared.action.Decision.{Decision}
use Rattle.jvms_machine.specs.declared.action.Decision.TheVariants as decision
use Rattle.jvms_machine.specs.declared.action.Effect.{Effect}
use Rattle.jvms_machine.specs.declared.action.Effect.TheVariants as effect
use Rattle.jvms_machine.specs.declared.action.FrameAction.{FrameAction}
use Rattle.jvms_machine.specs.declared.action.Lock.TheVariants as lock
use Rattle.jvms_machine.specs.declared.value.Value.{Value}
use Rattle.jvms_program.specs.declared.number.MethodNumber.{MethodNumber}
use Rattle.jvms_machine.specs.Decisions.{TurnDecision}
use Rattle.jvms_machine.specs.Fields.{reaches}
use Rattle.jvms_machine.specs.Status.{is_bad}
use Rattle.jvms_program.specs.declared.program.Body.{Body}
use Rattle.invoke.specs.machine_parts.Decided.{decision_value, action_value, effect_value}
use Rattle.invoke.specs.machine_parts.Machine.{Machine, IsMachine, decision_of, transition_of, with_state}
use Rattle.invoke.specs.declared.machine_parts.ActionText.{ActionText}
use Rattle.machine.specs.declared.applying.Turn.{Turn}
use Rattle.machine.specs.Others.{IsAsEnabled, IsQuietTurn, LeavesOthers}

-- ---- Quietness doesn't depend on the texts of an action

effect_seen : (what : Effect ActionText) → is_quiet_effect (effect_value what) ≡ is_quiet_effect what
effect_seen effect.Nothing = refl
effect_seen (effect.GetField r n) = refl
effect_seen (effect.PutField r n v) = refl
effect_seen (effect.GetStatic n) = refl
effect_seen (effect.PutStatic n v) = refl
effect_seen (effect.LoadElement r i) = refl
effect_seen (effect.StoreElement r i v) = refl
effect_seen (effect.Creates what) = refl
effect_seen (effect.Prints what ends_line) = refl
effect_seen (effect.Locks monitor) = refl
effect_seen (effect.Unlocks monitor) = refl
effect_seen (effect.Starts r u) = refl
effect_seen (effect.Joins u) = refl
effect_seen (effect.Notifies r all) = refl

action_seen : (act : Action (Bor Body) ActionText) → is_quiet (action_value act) ≡ is_quiet act
action_seen (action.Goes act) = refl
action_seen (action.Reaches what act) = effect_seen what
action_seen (action.Begins class) = refl
action_seen (action.Finishes class) = refl
action_seen (action.Enters method code locked) = refl
action_seen (action.Ends method result unlock) = refl
action_seen (action.Calls method code takes locked) = refl
action_seen (action.Returns method result unlock) = refl
action_seen (action.Initialises method code) = refl
action_seen (action.Throws r) = refl
action_seen (action.Catches r target) = refl
action_seen (action.Unwinds method last unlock) = refl
action_seen (action.FailsToUnlock method e last) = refl
action_seen (action.FailsInitialisation class e last) = refl
action_seen (action.Waits w) = refl
action_seen (action.Retakes w) = refl
action_seen (action.Raises e) = refl
action_seen (action.Fails e) = refl

decision_seen : (d : Decision (Bor Body) ActionText) → is_quiet_decision (decision_value d) ≡ is_quiet_decision d
decision_seen (decision.Stays o) = refl
decision_seen (decision.Applies act) = action_seen act

-- A quiet decision of the code is a quiet decision of the definitions.
pub decided_quietly : (m : Machine) (t : ℕ) (what : Decision (Bor Body) ActionText) → decision_value what ≡ decision_of m t → is_quiet_decision what ≡ true → IsQuietTurn m t
decided_quietly m t what told quiet = ap is_quiet_decision (sym told) ∙ decision_seen what ∙ quiet

-- A quiet decision of the code is quiet in the definitions.
pub seen_quietly : (what : Decision (Bor Body) ActionText) (d : TurnDecision) → decision_value what ≡ d → is_quiet_decision what ≡ true → is_quiet_decision d ≡ true
seen_quietly what d is quiet = ap is_quiet_decision (sym is) ∙ decision_seen what ∙ quiet

-- A turn that a fast path decided is quiet if its effect is.
pub reached_quietly : (m : Machine) (t : ℕ) (what : Effect (List ℕ)) (act : FrameAction) → decision_of m t ≡ reaches what act → is_quiet_decision (reaches what act) ≡ true → IsQuietTurn m t
reached_quietly m t what act is quiet = ap is_quiet_decision is ∙ quiet

-- A call that enters no monitor is quiet.
pub called_quietly : (m : Machine) (t : ℕ) (method : MethodNumber) (code : Body) (takes : ℕ) → decision_of m t ≡ decision.Applies (action.Calls method code takes lock.Nothing) → IsQuietTurn m t
called_quietly m t method code takes is = ap is_quiet_decision is

-- A return that leaves no monitor is quiet.
pub returned_quietly : (m : Machine) (t : ℕ) (method : MethodNumber) (value : Option Value) → decision_of m t ≡ decision.Applies (action.Returns method value None) → IsQuietTurn m t
returned_quietly m t method value is = ap is_quiet_decision is

-- A quiet turn leaves each other thread as enabled as it was.
pub quiet_leaves : (m after : Machine) (t : ℕ) → IsMachine m → IsQuietTurn m t → after ≡ with_state m (transition_of m t).state → LeavesOthers m t after
quiet_leaves m after t is quiet made = subst (LeavesOthers m t) (sym made) (λ u other fit. left u other fit)
  where
    left : (u : ℕ) → u ≢ t → is_bad (transition_of m u).outcome ≡ false → IsAsEnabled m (with_state m (transition_of m t).state) u
    left u other fit =
        let both = quiet_leaves_enabled m.program m.limits m.start m.state t u is.classes is.limits is.start is.sound other quiet fit in
        record { enabled = both.0; fit = both.1 }

-- A quiet turn with enough memory leaves each other thread as enabled as it was.
pub others_left : {E : Type 0} (seen m after : Machine) (t : ℕ) (r : Result Turn E) → seen ≡ m → IsMachine seen → IfOk r (λ turn. turn.is_quiet ≡ true → IsQuietTurn seen t) → OnOk r (after ≡ with_state seen (transition_of seen t).state) → IfOk r (λ turn. turn.is_quiet ≡ true → LeavesOthers m t after)
others_left seen m after t (Ok turn) same is tells made = λ quiet. subst (λ (n : Machine). LeavesOthers n t after) same (quiet_leaves seen after t is (tells quiet) made)
others_left seen m after t (Err e) same is tells made = tt
