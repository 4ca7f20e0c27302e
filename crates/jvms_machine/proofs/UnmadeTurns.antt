-- The turn of a thread that isn't enabled changes nothing, because a turn that is taken is one of an enabled thread.
use Rattle.std.proofs.Common.{◌≡◌, ℕ, Bool, true, false, List, [], refl}
use Rattle.jvms_machine.specs.declared.machine.Limits.{Limits}
use Rattle.jvms_program.specs.declared.program.Class.{Class}
use Rattle.jvms_machine.specs.declared.action.Action.TheVariants as action
use Rattle.jvms_machine.specs.declared.action.Decision.TheVariants as decision
use Rattle.jvms_machine.specs.State.{State}
use Rattle.jvms_machine.specs.Start.{Start}
use Rattle.jvms_machine.specs.Decisions.{TurnAction, TurnDecision, unwound_outcome, outcome_of, outcome_of_action}
use Rattle.jvms_machine.specs.Turn.{decide, turn, state_after, items_after}
use Rattle.jvms_machine.specs.Status.{is_enabled}

-- The turn that pops a frame is one of an enabled thread.
unwound_is_enabled : (last : Bool) → is_enabled (unwound_outcome last) ≡ true
unwound_is_enabled true = refl
unwound_is_enabled false = refl

-- A turn with an action is one of an enabled thread.
pub action_is_enabled : (act : TurnAction) → is_enabled (outcome_of_action act) ≡ true
action_is_enabled (action.Goes act) = refl
action_is_enabled (action.Reaches effect act) = refl
action_is_enabled (action.Begins class) = refl
action_is_enabled (action.Finishes class) = refl
action_is_enabled (action.Enters method code lock) = refl
action_is_enabled (action.Ends method result unlock) = refl
action_is_enabled (action.Calls method code takes lock) = refl
action_is_enabled (action.Returns method result unlock) = refl
action_is_enabled (action.Initialises method code) = refl
action_is_enabled (action.Throws r) = refl
action_is_enabled (action.Catches r target) = refl
action_is_enabled (action.Unwinds method last unlock) = unwound_is_enabled last
action_is_enabled (action.FailsToUnlock method e last) = unwound_is_enabled last
action_is_enabled (action.FailsInitialisation class e last) = unwound_is_enabled last
action_is_enabled (action.Waits w) = refl
action_is_enabled (action.Retakes w) = refl
action_is_enabled (action.Raises e) = refl
action_is_enabled (action.Fails e) = refl

unmade_keeps : (program : List Class) (start : Start) (s : State) (t : ℕ) (d : TurnDecision) → is_enabled (outcome_of d) ≡ false → (state_after program start s t d ≡ s) × (items_after program t d ≡ [])
unmade_keeps program start s t (decision.Stays o) disabled = (refl, refl)
unmade_keeps program start s t (decision.Applies act) disabled = absurd (cc (action_is_enabled act))

pub unmade_turn_keeps : (program : List Class) (limits : Limits) (start : Start) (s : State) (t : ℕ) → is_enabled (turn program limits start s t).outcome ≡ false → ((turn program limits start s t).state ≡ s) × ((turn program limits start s t).items ≡ [])
unfolding turn
unmade_turn_keeps program limits start s t disabled = unmade_keeps program start s t (decide program limits start s t) disabled
