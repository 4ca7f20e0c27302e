-- The joins and accesses of a turn are those that the states determine, and so are all its items.
use Rattle.std.proofs.Common.{IsTrue, List, None, Option, Some, [], ap, refl, slice_get, ℕ, ◌++◌, ◌∙◌, ◌≡◌}
use Rattle.std.specs.List.{filter}
use Rattle.jvms_program.specs.Program.{IsProgram}
use Rattle.jvms_program.specs.declared.program.Class.{Class}
use Rattle.jvms_machine.specs.Decisions.{TurnDecision}
use Rattle.jvms_machine.specs.Events.{acquires_between, forks_between, is_acquire, is_fork, releases_between}
use Rattle.jvms_machine.specs.Exceptions.{throws}
use Rattle.jvms_machine.specs.Fields.{reaches}
use Rattle.jvms_machine.specs.Limits.{are_limits}
use Rattle.jvms_machine.specs.Marks.{calls_of, is_mark, marks_between}
use Rattle.jvms_machine.specs.Monitors.{fails_to_unlock, is_empty}
use Rattle.jvms_machine.specs.Returns.{returns_to}
use Rattle.jvms_machine.specs.Start.{IsStart, Start}
use Rattle.jvms_machine.specs.State.{Frame, Sound, State, Thread}
use Rattle.jvms_machine.specs.Turn.{decide, thread_decision, turn}
use Rattle.jvms_machine.specs.declared.action.Action.TheVariants as action
use Rattle.jvms_machine.specs.declared.action.Decision.TheVariants as decision
use Rattle.jvms_machine.specs.declared.machine.Limits.{Limits}
use Rattle.jvms_machine.specs.declared.machine.Outcome.TheVariants as outcome
use Rattle.jvms_machine.specs.declared.trace.Item.{Item}
use Rattle.jvms_machine.proofs.TurnSoundness.{turn_is_told, turn_marks}
use Rattle.turn_item_laws.proofs.InstructionWalks.{IsOfActions, IsOfPops}
use Rattle.turn_item_laws.proofs.ItemParts.{turn_in_parts}
use Rattle.turn_item_laws.proofs.SilentTurns.{IsSilent, begins_is_silent, catches_is_silent, enters_is_silent, fails_initialisation_is_silent, fails_is_silent, finishes_is_silent, goes_is_silent, initialises_is_silent, reaches_is_silent, retakes_is_silent, returns_is_silent, throwing_is_silent, throws_is_silent, unmade_is_silent, unwinds_is_silent}
use Rattle.turn_item_laws.proofs.Successes.{HasItemsOf, silent_is_told, told_calls}
use Rattle.turn_item_laws.proofs.TurnWalks.{IsOfTurns, OfCall, given_out_has}
use Rattle.turn_item_laws.specs.Accesses.{accesses_between, is_access}
use Rattle.turn_item_laws.specs.Joins.{is_join, joins_between}
use Rattle.turn_item_laws.specs.Progress.{next_call}
use Rattle.turn_item_laws.specs.ItemsBetween.{items_between}

module _ (program : List Class) (limits : Limits) (start : Start) (s : State) (t : ℕ) where
  -- A silent decision has no joins and no accesses.
  silent : (d : TurnDecision) → IsSilent program limits s t d → HasItemsOf program limits start s t [] [] d
  silent d is = silent_is_told program limits start s t d is

  told_actions : (thread : Thread) → IsOfActions program limits s t thread (HasItemsOf program limits start s t [] [])
  told_actions thread =
      record {
        of_tests = record {
          unmade = λ o. silent (decision.Stays o) (unmade_is_silent program limits s t o);
          thrown_by = λ class. silent (throws limits s thread class) (throws_is_silent program limits s t thread class);
          begun_by = λ class begins. silent (decision.Applies (action.Begins class)) (begins_is_silent program limits s t class);
        };
        reached = λ what act is. silent (reaches what act) (reaches_is_silent program limits s t what act is);
        threw = λ r. silent (decision.Applies (action.Throws r)) (throwing_is_silent program limits s t r);
      }

  told_pops : (frames : List Frame) → IsOfPops limits s frames (HasItemsOf program limits start s t [] [])
  told_pops frames =
      record {
        unmade = λ o. silent (decision.Stays o) (unmade_is_silent program limits s t o);
        catches = λ r target. silent (decision.Applies (action.Catches r target)) (catches_is_silent program limits s t r target);
        returned = λ f below result unlock is. silent (returns_to f.method below result unlock) (returns_is_silent program limits s t f.method below result unlock);
        unwinds = λ f below unlock is. silent (decision.Applies (action.Unwinds f.method (is_empty below) unlock)) (unwinds_is_silent program limits s t f.method (is_empty below) unlock);
        fails = λ f below is. silent (fails_to_unlock limits s f.method below) (fails_is_silent program limits s t f.method below);
        fails_initialisation = λ class called e below is.
            silent (decision.Applies (action.FailsInitialisation class e (is_empty below))) (fails_initialisation_is_silent program limits s t class e (is_empty below));
      }

  told_turns : (thread : Thread) → IsOfTurns program limits s t thread (HasItemsOf program limits start s t)
  told_turns thread =
      record {
        calls = λ frame below joins accesses top. told_calls program limits start s t thread frame below top joins accesses;
        actions = told_actions thread;
        pops = told_pops thread.frames;
        goes = λ act. silent (decision.Applies (action.Goes act)) (goes_is_silent program limits s t act);
        enters = λ is n body locked. silent (decision.Applies (action.Enters n body locked)) (enters_is_silent program limits s t n body locked);
        initialises = λ n body. silent (decision.Applies (action.Initialises n body)) (initialises_is_silent program limits s t n body);
        finishes = λ c called below is class. silent (decision.Applies (action.Finishes class)) (finishes_is_silent program limits s t class);
        retakes = λ w. silent (decision.Applies (action.Retakes w)) (retakes_is_silent program limits s t w);
      }

  thread_told : (o : Option Thread) → slice_get s.threads t ≡ o → OfCall program limits start s t (HasItemsOf program limits start s t) (next_call o) (thread_decision program limits start s t o)
  thread_told None is = silent (decision.Stays outcome.NoThread) (unmade_is_silent program limits s t outcome.NoThread)
  thread_told (Some thread) is = given_out_has program limits start s t (HasItemsOf program limits start s t) thread (told_turns thread) thread.ended thread.pending thread.waits is refl

  decide_told : OfCall program limits start s t (HasItemsOf program limits start s t) (next_call (slice_get s.threads t)) (decide program limits start s t)
  unfolding decide
  decide_told = thread_told (slice_get s.threads t) refl

-- The joins of a turn are those between the states.
pub turn_joins : (program : List Class) (limits : Limits) (start : Start) (s : State) (t : ℕ) → IsProgram program → Sound program limits s → filter is_join (turn program limits start s t).items ≡ joins_between program t s (turn program limits start s t).state
unfolding turn
turn_joins program limits start s t is sound = (decide_told program limits start s t).joins_are (is, sound)

-- The accesses of a turn are those between the states.
pub turn_accesses : (program : List Class) (limits : Limits) (start : Start) (s : State) (t : ℕ) → filter is_access (turn program limits start s t).items ≡ accesses_between program t s (turn program limits start s t).state
unfolding turn
turn_accesses program limits start s t = (decide_told program limits start s t).accesses_are

-- The items of a turn are those between the states.
pub turn_items_are_told : (program : List Class) (limits : Limits) (start : Start) (s : State) (t : ℕ) → IsProgram program → IsTrue (are_limits limits) → IsStart start → Sound program limits s → (turn program limits start s t).items ≡ items_between program t s (turn program limits start s t).state
turn_items_are_told program limits start s t is are starts sound =
    let row = turn program limits start s t in
    let events = turn_is_told program limits start s t is are starts sound in
    let marks = turn_marks program limits start s t are starts sound in
    turn_in_parts program limits start s t
    ∙ ap (λ (items : List Item). items ++ filter is_mark row.items ++ filter is_acquire row.items ++ filter is_fork row.items ++ filter is_join row.items ++ filter is_access row.items) events.releases
    ∙ ap (λ (items : List Item). releases_between t s row.state ++ items ++ filter is_acquire row.items ++ filter is_fork row.items ++ filter is_join row.items ++ filter is_access row.items) marks
    ∙ ap (λ (items : List Item). releases_between t s row.state ++ marks_between program t (calls_of s t) (calls_of row.state t) ++ items ++ filter is_fork row.items ++ filter is_join row.items ++ filter is_access row.items) events.acquires
    ∙ ap (λ (items : List Item). releases_between t s row.state ++ marks_between program t (calls_of s t) (calls_of row.state t) ++ acquires_between t s row.state ++ items ++ filter is_join row.items ++ filter is_access row.items) events.forks
    ∙ ap (λ (items : List Item). releases_between t s row.state ++ marks_between program t (calls_of s t) (calls_of row.state t) ++ acquires_between t s row.state ++ forks_between t s row.state ++ items ++ filter is_access row.items) (turn_joins program limits start s t is sound)
    ∙ ap (λ (items : List Item). releases_between t s row.state ++ marks_between program t (calls_of s t) (calls_of row.state t) ++ acquires_between t s row.state ++ forks_between t s row.state ++ joins_between program t s row.state ++ items) (turn_accesses program limits start s t)
