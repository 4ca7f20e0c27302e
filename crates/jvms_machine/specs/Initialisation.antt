-- The initialisation of classes (JVMS 5.5).
use Rattle.std.specs.Prelude.{ℕ, Bool, true, false, not, ◌==◌, nat_le, if◌then◌else◌, List, [], ◌∷◌, ◌++◌, length, Option, Some, None, is_some, slice_get, codes}
use Rattle.std.specs.Option.{option_and_then}
use Rattle.jvms_machine.specs.declared.machine.Outcome.TheVariants as outcome
use Rattle.jvms_machine.specs.declared.machine.BlockedOn.TheVariants as blocked
use Rattle.jvms_machine.specs.declared.machine.Limits.{Limits}
use Rattle.jvms_machine.specs.declared.state.Initialisation.{Initialisation}
use Rattle.jvms_machine.specs.declared.state.Initialisation.TheVariants as initialisation
use Rattle.jvms_program.specs.declared.program.Class.{Class}
use Rattle.jvms_program.specs.declared.program.Field.{Field}
use Rattle.jvms_program.specs.declared.program.Loadable.{Loadable}
use Rattle.jvms_program.specs.declared.program.Loadable.TheVariants as loadable
use Rattle.jvms_program.specs.declared.program.Body.{Body}
use Rattle.jvms_program.specs.declared.number.MethodNumber.{MethodNumber}
use Rattle.jvms_program.specs.declared.thrown.Thrown.TheVariants as thrown
use Rattle.jvms_machine.specs.declared.action.Decision.TheVariants as decision
use Rattle.jvms_machine.specs.declared.action.Action.TheVariants as action
use Rattle.jvms_program.specs.Program.{class_number, declared_number}
use Rattle.jvms_program.specs.Resolution.{is_interface_kind}
use Rattle.jvms_machine.specs.State.{State, Thread, Object, text, text_reference}
use Rattle.jvms_machine.specs.Decisions.{TurnDecision, never_seen}
use Rattle.jvms_machine.specs.Exceptions.{throws, has_room_for}

-- ---- A required initialisation

-- Returns the constants of static fields (JVMS 4.7.2), in the fields' order.
abbrev pub constants_of : List Field → List Loadable
constants_of [] = []
constants_of (f ∷ fields) = listed f.is_static f.constant ++ constants_of fields
  where
    listed : Bool → Option Loadable → List Loadable
    listed true (Some c) = c ∷ []
    listed _ _ = []

-- Returns the distinct strings among constants that have no object yet.
abbrev pub new_texts : List Object → List Loadable → List (List ℕ)
new_texts heap [] = []
new_texts heap (loadable.String units ∷ constants) =
    if is_some (text_reference heap units) then new_texts heap constants
    else units ∷ new_texts (heap ++ text units ∷ []) constants
new_texts heap (c ∷ constants) = new_texts heap constants

-- Decides the start of an initialisation. It tests the room for the strings of the constants, then that for a frame.
-- The class is then marked, its constants are stored, and its frame is pushed. The instruction runs again later.
abbrev pub begin_decision : Limits → State → Thread → ℕ → Option Class → TurnDecision
begin_decision limits s thread class None = never_seen
begin_decision limits s thread class (Some c) =
    if not (has_room_for (length (new_texts s.heap (constants_of c.fields))) limits s) then throws limits s thread thrown.OutOfMemoryError
    else (if nat_le limits.frames (length thread.frames) then throws limits s thread thrown.StackOverflowError
    else decision.Applies (action.Begins class))

-- Decides a turn that requires the initialisation of a class. It is `continued` if that is done, or in progress by the
-- turn's own thread.
abbrev pub requiring_class_in : List Class → Limits → State → ℕ → Thread → ℕ → Option Initialisation → TurnDecision → TurnDecision
requiring_class_in program limits s t thread class None continued = never_seen
requiring_class_in program limits s t thread class (Some initialisation.NotBegun) continued =
    begin_decision limits s thread class (slice_get program class)
requiring_class_in program limits s t thread class (Some (initialisation.InProgress u)) continued =
    if u == t then continued else decision.Stays (outcome.Blocked (blocked.Initialisation class u))
requiring_class_in program limits s t thread class (Some initialisation.Done) continued = continued
requiring_class_in program limits s t thread class (Some initialisation.Erroneous) continued =
    throws limits s thread thrown.NoClassDefFoundError

-- Decides the use of a class. If it has to be initialised first, the decision is that of its initialisation.
abbrev pub class_use_decision : List Class → Limits → State → ℕ → Thread → ℕ → TurnDecision → TurnDecision
class_use_decision program limits s t thread class continued =
    requiring_class_in program limits s t thread class (slice_get s.initialisations class) continued

-- ---- A turn with an initialisation on top

-- Returns the index of a class's `<clinit>()V` among its methods.
abbrev pub initializer_of : Class → Option ℕ
initializer_of c = declared_number c (codes "<clinit>") (codes "()V")

-- Returns the number of the superclass that initialisation requires. An interface requires none.
abbrev pub asked_superclass : List Class → Class → Option ℕ
asked_superclass program c =
    if is_interface_kind c.kind then None else option_and_then (class_number program) c.superclass

-- Decides the call of a class's `<clinit>()V`, if there is room for a frame. Its flags aren't tested (own).
abbrev pub initializer_call : Limits → State → Thread → MethodNumber → Option Body → TurnDecision
initializer_call limits s thread method None = never_seen
initializer_call limits s thread method (Some body) =
    if nat_le limits.frames (length thread.frames) then throws limits s thread thrown.StackOverflowError
    else decision.Applies (action.Initialises method body)

-- Decides the initialisation of a class that waits for no superclass. It calls the `<clinit>()V`, or finishes if there
-- is none.
abbrev pub initializer_decision : Limits → State → Thread → Class → ℕ → Option ℕ → TurnDecision
initializer_decision limits s thread c class None = decision.Applies (action.Finishes class)
initializer_decision limits s thread c class (Some n) =
    initializer_call limits s thread (record { class = class; method = n }) (option_and_then (λ m. m.body) (slice_get c.methods n))

-- Decides the initialisation of the superclass, which comes first.
abbrev pub superclass_decision : List Class → Limits → State → ℕ → Thread → Option ℕ → TurnDecision → TurnDecision
superclass_decision program limits s t thread None continued = continued
superclass_decision program limits s t thread (Some super) continued = class_use_decision program limits s t thread super continued

-- Decides a turn with an initialisation on top. The superclass comes first, then the call of `<clinit>`. The class is
-- done if there is no `<clinit>` or it has returned.
abbrev pub initialisation_decision : List Class → Limits → State → ℕ → Thread → ℕ → Bool → Option Class → TurnDecision
initialisation_decision program limits s t thread class called None = never_seen
initialisation_decision program limits s t thread class true (Some c) = decision.Applies (action.Finishes class)
initialisation_decision program limits s t thread class false (Some c) =
    superclass_decision program limits s t thread (asked_superclass program c) (initializer_decision limits s thread c class (initializer_of c))
