-- A decision of the code is local just if it is in the definitions.
use Rattle.std.proofs.Common.{None, Some, ap, refl, sym, ℕ, ◌∙◌, ◌≡◌}
use Rattle.std.specs.Borrow.{Bor}
use Rattle.jvms_machine.specs.declared.action.Action.{Action}
use Rattle.jvms_machine.specs.declared.action.Action.TheVariants as action
use Rattle.jvms_machine.specs.declared.action.Decision.{Decision}
use Rattle.jvms_machine.specs.declared.action.Decision.TheVariants as decision
use Rattle.jvms_machine.specs.declared.action.Lock.TheVariants as lock
use Rattle.jvms_program.specs.declared.program.Body.{Body}
use Rattle.local_laws.specs.Local.{is_local_action, is_local_decision}
use Rattle.invoke.specs.machine_parts.Decided.{action_value, decision_value}
use Rattle.invoke.specs.machine_parts.Machine.{Machine, decision_of}
use Rattle.invoke.specs.declared.machine_parts.ActionText.{ActionText}

action_seen : (act : Action (Bor Body) ActionText) → is_local_action (action_value act) ≡ is_local_action act
action_seen (action.Goes act) = refl
action_seen (action.Reaches effect act) = refl
action_seen (action.Begins class) = refl
action_seen (action.Finishes class) = refl
action_seen (action.Enters method code locked) = refl
action_seen (action.Ends method result unlock) = refl
action_seen (action.Calls method code takes lock.Nothing) = refl
action_seen (action.Calls method code takes (lock.Monitor monitor)) = refl
action_seen (action.Calls method code takes (lock.NewClass class r)) = refl
action_seen (action.Returns method result None) = refl
action_seen (action.Returns method result (Some monitor)) = refl
action_seen (action.Initialises method code) = refl
action_seen (action.Throws r) = refl
action_seen (action.Catches r target) = refl
action_seen (action.Unwinds method last unlock) = refl
action_seen (action.FailsToUnlock method e last) = refl
action_seen (action.FailsInitialisation class e last) = refl
action_seen (action.Waits w) = refl
action_seen (action.Retakes w) = refl
action_seen (action.Raises e) = refl
action_seen (action.Fails e) = refl

decision_seen : (d : Decision (Bor Body) ActionText) → is_local_decision (decision_value d) ≡ is_local_decision d
decision_seen (decision.Stays o) = refl
decision_seen (decision.Applies act) = action_seen act

pub decided_locally : (m : Machine) (t : ℕ) (what : Decision (Bor Body) ActionText) → decision_value what ≡ decision_of m t → is_local_decision what ≡ is_local_decision (decision_of m t)
decided_locally m t what told = sym (decision_seen what) ∙ ap is_local_decision told
