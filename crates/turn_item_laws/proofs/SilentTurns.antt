-- Turns that neither join a thread nor read or write a variable.
use Rattle.std.proofs.Common.{Bool, List, Option, [], refl, subst, ℕ, ◌∷◌}
use Rattle.std.proofs.lemmas.List.{append-nil}
use Rattle.jvms_program.specs.Program.{key_of}
use Rattle.jvms_program.specs.declared.number.MethodNumber.{MethodNumber}
use Rattle.jvms_program.specs.declared.program.Body.{Body}
use Rattle.jvms_program.specs.declared.program.Class.{Class}
use Rattle.jvms_program.specs.declared.thrown.Thrown.{Thrown}
use Rattle.jvms_machine.specs.Actions.{effect_items, enter_items, exit_items, items_of, lock_items}
use Rattle.jvms_machine.specs.Decisions.{TurnDecision}
use Rattle.jvms_machine.specs.Exceptions.{exception_of, raise_decision, throws}
use Rattle.jvms_machine.specs.Fields.{reaches}
use Rattle.jvms_machine.specs.Monitors.{fails_to_unlock}
use Rattle.jvms_machine.specs.Returns.{returns_to}
use Rattle.jvms_machine.specs.State.{Frame, State, Thread}
use Rattle.jvms_machine.specs.Turn.{items_after}
use Rattle.jvms_machine.specs.declared.action.Action.TheVariants as action
use Rattle.jvms_machine.specs.declared.action.Decision.TheVariants as decision
use Rattle.jvms_machine.specs.declared.action.Effect.{Effect}
use Rattle.jvms_machine.specs.declared.action.Exception.{Exception}
use Rattle.jvms_machine.specs.declared.action.FrameAction.{FrameAction}
use Rattle.jvms_machine.specs.declared.action.Lock.{Lock}
use Rattle.jvms_machine.specs.declared.action.MonitorUse.{MonitorUse}
use Rattle.jvms_machine.specs.declared.machine.Limits.{Limits}
use Rattle.jvms_machine.specs.declared.machine.Outcome.{Outcome}
use Rattle.jvms_machine.specs.declared.state.Wait.{Wait}
use Rattle.jvms_machine.specs.declared.value.Value.{Value}
use Rattle.turn_item_laws.proofs.SilentItems.{AreSilent, entry_is_silent, exit_is_silent, left_is_silent, lock_is_silent, none_is_silent}

module _ (program : List Class) (limits : Limits) (s : State) (t : ℕ) where
  -- The decision gives no join, read or write.
  abbrev pub IsSilent : TurnDecision → Type 0
  IsSilent d = AreSilent (items_after program t d)

  pub unmade_is_silent : (o : Outcome) → IsSilent (decision.Stays o)
  unmade_is_silent o = none_is_silent

  pub raise_is_silent : (frames : List Frame) (e : Exception) → IsSilent (raise_decision frames e)
  unfolding items_of
  raise_is_silent [] e = none_is_silent
  raise_is_silent (f ∷ below) e = none_is_silent

  pub throws_is_silent : (thread : Thread) (class : Thrown) → IsSilent (throws limits s thread class)
  unfolding throws
  throws_is_silent thread class = raise_is_silent thread.frames (exception_of limits s class)

  pub begins_is_silent : (class : ℕ) → IsSilent (decision.Applies (action.Begins class))
  unfolding items_of
  begins_is_silent class = none_is_silent

  pub goes_is_silent : (act : FrameAction) → IsSilent (decision.Applies (action.Goes act))
  unfolding items_of
  goes_is_silent act = none_is_silent

  pub reaches_is_silent : (what : Effect (List ℕ)) (act : FrameAction) → AreSilent (effect_items program t what) → IsSilent (reaches what act)
  unfolding items_of
  reaches_is_silent what act silent = silent

  pub calls_is_silent : (n : MethodNumber) (body : Body) (takes : ℕ) (locked : Lock) → IsSilent (decision.Applies (action.Calls n body takes locked))
  unfolding items_of
  calls_is_silent n body takes locked = entry_is_silent t (key_of program n) (lock_items t locked) (lock_is_silent t locked)

  pub enters_is_silent : (n : MethodNumber) (body : Body) (locked : Lock) → IsSilent (decision.Applies (action.Enters n body locked))
  unfolding items_of
  enters_is_silent n body locked = entry_is_silent t (key_of program n) (lock_items t locked) (lock_is_silent t locked)

  pub finishes_is_silent : (class : ℕ) → IsSilent (decision.Applies (action.Finishes class))
  unfolding items_of
  finishes_is_silent class = none_is_silent

  pub initialises_is_silent : (n : MethodNumber) (body : Body) → IsSilent (decision.Applies (action.Initialises n body))
  unfolding items_of
  initialises_is_silent n body = subst AreSilent (append-nil (enter_items program t n)) (entry_is_silent t (key_of program n) [] none_is_silent)

  pub throwing_is_silent : (r : ℕ) → IsSilent (decision.Applies (action.Throws r))
  unfolding items_of
  throwing_is_silent r = none_is_silent

  pub waits_is_silent : (w : Wait) → IsSilent (decision.Applies (action.Waits w))
  unfolding items_of
  waits_is_silent w = record { joins = refl; accesses = refl }

  pub retakes_is_silent : (w : Wait) → IsSilent (decision.Applies (action.Retakes w))
  unfolding items_of
  retakes_is_silent w = record { joins = refl; accesses = refl }

  pub catches_is_silent : (r target : ℕ) → IsSilent (decision.Applies (action.Catches r target))
  unfolding items_of
  catches_is_silent r target = none_is_silent

  pub fails_initialisation_is_silent : (class : ℕ) (e : Exception) (last : Bool) → IsSilent (decision.Applies (action.FailsInitialisation class e last))
  unfolding items_of
  fails_initialisation_is_silent class e last = none_is_silent

  pub fails_is_silent : (n : MethodNumber) (below : List Frame) → IsSilent (fails_to_unlock limits s n below)
  unfolding items_of
  fails_is_silent n below = exit_is_silent t (key_of program n)

  pub returns_is_silent : (n : MethodNumber) (below : List Frame) (result : Option Value) (unlock : Option MonitorUse) → IsSilent (returns_to n below result unlock)
  unfolding items_of
  returns_is_silent n [] result unlock = left_is_silent t unlock (exit_items program t n) (exit_is_silent t (key_of program n))
  returns_is_silent n (f ∷ below) result unlock = left_is_silent t unlock (exit_items program t n) (exit_is_silent t (key_of program n))

  pub unwinds_is_silent : (n : MethodNumber) (last : Bool) (unlock : Option MonitorUse) → IsSilent (decision.Applies (action.Unwinds n last unlock))
  unfolding items_of
  unwinds_is_silent n last unlock = left_is_silent t unlock (exit_items program t n) (exit_is_silent t (key_of program n))
