-- Proves that the items of a run have the names of its program.
use Rattle.std.proofs.Common.{◌≡◌, ◌⊎◌, ℕ, Bool, true, false, cond, List, [], ◌∷◌, ◌++◌, Option, Some, None, Result, Ok, Err, refl}
use Rattle.std.specs.Prelude.{slice_get}
use Rattle.std.specs.Option.{option_and_then, option_map}
use Rattle.std.specs.List.{AllByRecursion}
use Rattle.jvms_file.specs.declared.class_file.ClassFile.{ClassFile}
use Rattle.jvms_program.specs.declared.key.FieldKey.{FieldKey}
use Rattle.jvms_program.specs.declared.key.MethodKey.{MethodKey}
use Rattle.jvms_program.specs.declared.number.FieldNumber.{FieldNumber}
use Rattle.jvms_program.specs.declared.number.MethodNumber.{MethodNumber}
use Rattle.jvms_program.specs.declared.program.Class.{Class}
use Rattle.jvms_program.specs.declared.program.Field.{Field}
use Rattle.jvms_program.specs.declared.program.Method.{Method}
use Rattle.jvms_program.specs.BuiltIn.{is_built_in}
use Rattle.jvms_program.specs.Program.{field_key, field_key_at, key_in, key_of, program_of}
use Rattle.jvms_machine.specs.declared.action.Action.TheVariants as action
use Rattle.jvms_machine.specs.declared.action.Effect.{Effect}
use Rattle.jvms_machine.specs.declared.action.Effect.TheVariants as effect
use Rattle.jvms_machine.specs.declared.action.Decision.TheVariants as decision
use Rattle.jvms_machine.specs.declared.action.Lock.{Lock}
use Rattle.jvms_machine.specs.declared.action.Lock.TheVariants as lock
use Rattle.jvms_machine.specs.declared.action.MonitorUse.{MonitorUse}
use Rattle.jvms_machine.specs.declared.machine.Limits.{Limits}
use Rattle.jvms_machine.specs.declared.trace.Item.{Item}
use Rattle.jvms_machine.specs.declared.trace.Item.TheVariants as item
use Rattle.jvms_machine.specs.declared.trace.Variable.{Variable}
use Rattle.jvms_machine.specs.declared.trace.Variable.TheVariants as variable
use Rattle.jvms_machine.specs.Actions.{mark, enter_items, exit_items, field_variable, instance_variable, static_variable, event, acquire_items, release_items, lock_items, unlock_items, effect_items, items_of}
use Rattle.jvms_machine.specs.Decisions.{TurnDecision, TurnAction}
use Rattle.jvms_machine.specs.Run.{run_from}
use Rattle.jvms_machine.specs.Start.{Start}
use Rattle.jvms_machine.specs.State.{State}
use Rattle.jvms_machine.specs.Turn.{decide, items_after, turn}
use Rattle.jvms_machine.proofs.ListLaws.{all_at}
use Rattle.escapes.specs.Keys.{IsFieldKey, IsMethodKey}
use Rattle.trace_text.specs.declared.fault.TraceFault.{TraceFault}
use Rattle.trace_text.specs.declared.fault.TraceFault.TheVariants as fault
use Rattle.trace_text.specs.Items.{IsItem, IsVariable}
use Rattle.trace_text.specs.Traces.{trace_text, IsRead}
use Rattle.trace_text.proofs.OneReading.{read_again}
use Rattle.run_trace_laws.specs.Written.{IsSpelled, IsNamed, IsNamedVariable, VariableHasNumbers, HasNumbers}
use Rattle.run_trace_laws.proofs.ProgramNames.{IsNamedField, IsNamedMethod, IsNamedUnlessBuiltIn, program_named}

all_behind : (xs ys : List Item) → AllByRecursion IsNamed xs → AllByRecursion IsNamed ys → AllByRecursion IsNamed (xs ++ ys)
all_behind [] ys left right = right
all_behind (x ∷ xs) ys left right = (left.0, all_behind xs ys left.1 right)

-- ---- Keys

-- The key of a method is well formed, if its class isn't built in.
abbrev MethodNamed : Option MethodKey → Type 0
MethodNamed None = Unit {0}
MethodNamed (Some key) = is_built_in key.class ≡ false → IsMethodKey key

abbrev FieldNamed : Option FieldKey → Type 0
FieldNamed None = Unit {0}
FieldNamed (Some key) = is_built_in key.class ≡ false → IsFieldKey key

method_in_class : (c : Class) (i : ℕ) (o : Option Method) → IsNamedUnlessBuiltIn c → slice_get c.methods i ≡ o → MethodNamed (option_map (key_in c) o)
method_in_class c i None named is = tt
method_in_class c i (Some m) named is = λ own.
    let class = named own in
    let parts = all_at IsNamedMethod c.methods i m is class.methods in
    record { class = class.name; name = parts.0; descriptor = parts.1 }

field_in_class : (c : Class) (i : ℕ) (o : Option Field) → IsNamedUnlessBuiltIn c → slice_get c.fields i ≡ o → FieldNamed (option_map (field_key c) o)
field_in_class c i None named is = tt
field_in_class c i (Some f) named is = λ own.
    let class = named own in
    let parts = all_at IsNamedField c.fields i f is class.fields in
    record { class = class.name; name = parts.0; descriptor = parts.1 }

-- ---- Items by keys

marked_by : (make : MethodKey → Item) (key : MethodKey) (built_in : Bool) → is_built_in key.class ≡ built_in → ((k : MethodKey) → IsMethodKey k → IsNamed (make k)) → MethodNamed (Some key)
    → AllByRecursion IsNamed (cond built_in [] (make key ∷ []))
marked_by make key true is makes named = tt
marked_by make key false is makes named = (makes key (named is), tt)

marked : (make : MethodKey → Item) (o : Option MethodKey) → ((k : MethodKey) → IsMethodKey k → IsNamed (make k)) → MethodNamed o → AllByRecursion IsNamed (mark make o)
marked make None makes named = tt
marked make (Some key) makes named = marked_by make key (is_built_in key.class) refl makes named

abbrev VariableNamed : Option Variable → Type 0
VariableNamed None = Unit {0}
VariableNamed (Some v) = IsNamedVariable v

varied_by : (make : FieldKey → Variable) (key : FieldKey) (built_in : Bool) → is_built_in key.class ≡ built_in → ((k : FieldKey) → IsFieldKey k → IsNamedVariable (make k)) → FieldNamed (Some key)
    → VariableNamed (cond built_in None (Some (make key)))
varied_by make key true is makes named = tt
varied_by make key false is makes named = makes key (named is)

varied : (make : FieldKey → Variable) (o : Option FieldKey) → ((k : FieldKey) → IsFieldKey k → IsNamedVariable (make k)) → FieldNamed o → VariableNamed (field_variable make o)
varied make None makes named = tt
varied make (Some key) makes named = varied_by make key (is_built_in key.class) refl makes named

touched : (make : Variable → Item) (o : Option Variable) → ((v : Variable) → IsNamedVariable v → IsNamed (make v)) → VariableNamed o → AllByRecursion IsNamed (event make o)
touched make None makes named = tt
touched make (Some v) makes named = (makes v named, tt)

-- ---- Items without names

acquired_by : (t r : ℕ) (outermost : Bool) → AllByRecursion IsNamed (cond outermost (item.Acquire t r ∷ []) [])
acquired_by t r true = (tt, tt)
acquired_by t r false = tt

released_by : (t r : ℕ) (outermost : Bool) → AllByRecursion IsNamed (cond outermost (item.Release t r ∷ []) [])
released_by t r true = (tt, tt)
released_by t r false = tt

acquired : (t : ℕ) (monitor : MonitorUse) → AllByRecursion IsNamed (acquire_items t monitor)
acquired t monitor = acquired_by t monitor.reference monitor.outermost

released : (t : ℕ) (monitor : MonitorUse) → AllByRecursion IsNamed (release_items t monitor)
released t monitor = released_by t monitor.reference monitor.outermost

locked : (t : ℕ) (l : Lock) → AllByRecursion IsNamed (lock_items t l)
locked t lock.Nothing = tt
locked t (lock.Monitor monitor) = acquired t monitor
locked t (lock.NewClass class r) = (tt, tt)

unlocked : (t : ℕ) (o : Option MonitorUse) → AllByRecursion IsNamed (unlock_items t o)
unlocked t None = tt
unlocked t (Some monitor) = released t monitor

-- ---- The items of a turn, and of a run

module _ (program : List Class) (are : AllByRecursion IsNamedUnlessBuiltIn program) where
  method_at_class : (n : MethodNumber) (o : Option Class) → slice_get program n.class ≡ o → MethodNamed (option_and_then (λ c. option_map (key_in c) (slice_get c.methods n.method)) o)
  method_at_class n None is = tt
  method_at_class n (Some c) is = method_in_class c n.method (slice_get c.methods n.method) (all_at IsNamedUnlessBuiltIn program n.class c is are) refl

  field_at_class : (n : FieldNumber) (o : Option Class) → slice_get program n.class ≡ o → FieldNamed (option_and_then (λ c. option_map (field_key c) (slice_get c.fields n.field)) o)
  field_at_class n None is = tt
  field_at_class n (Some c) is = field_in_class c n.field (slice_get c.fields n.field) (all_at IsNamedUnlessBuiltIn program n.class c is are) refl

  entered : (t : ℕ) (n : MethodNumber) → AllByRecursion IsNamed (enter_items program t n)
  entered t n = marked (λ key. item.Enter t key) (key_of program n) (λ key is. is) (method_at_class n (slice_get program n.class) refl)

  left : (t : ℕ) (n : MethodNumber) → AllByRecursion IsNamed (exit_items program t n)
  left t n = marked (λ key. item.Exit t key) (key_of program n) (λ key is. is) (method_at_class n (slice_get program n.class) refl)

  instance : (r : ℕ) (n : FieldNumber) → VariableNamed (instance_variable program r n)
  instance r n = varied (λ key. variable.Instance r key) (field_key_at program n) (λ key is. is) (field_at_class n (slice_get program n.class) refl)

  static : (n : FieldNumber) → VariableNamed (static_variable program n)
  static n = varied (λ key. variable.Static key) (field_key_at program n) (λ key is. is) (field_at_class n (slice_get program n.class) refl)

  effect_named : (t : ℕ) (e : Effect (List ℕ)) → AllByRecursion IsNamed (effect_items program t e)
  effect_named t (effect.GetField r n) = touched (λ v. item.Read t v) (instance_variable program r n) (λ v is. is) (instance r n)
  effect_named t (effect.PutField r n v) = touched (λ w. item.Write t w) (instance_variable program r n) (λ w is. is) (instance r n)
  effect_named t (effect.GetStatic n) = touched (λ v. item.Read t v) (static_variable program n) (λ v is. is) (static n)
  effect_named t (effect.PutStatic n v) = touched (λ w. item.Write t w) (static_variable program n) (λ w is. is) (static n)
  effect_named t (effect.LoadElement r i) = (tt, tt)
  effect_named t (effect.StoreElement r i v) = (tt, tt)
  effect_named t (effect.Locks monitor) = acquired t monitor
  effect_named t (effect.Unlocks monitor) = released t monitor
  effect_named t (effect.Starts r u) = (tt, tt)
  effect_named t (effect.Joins u) = (tt, tt)
  effect_named t e = tt

  action_named : (t : ℕ) (act : TurnAction) → AllByRecursion IsNamed (items_of program t act)
  unfolding items_of
  action_named t (action.Reaches e act) = effect_named t e
  action_named t (action.Enters method body lock) = all_behind (enter_items program t method) (lock_items t lock) (entered t method) (locked t lock)
  action_named t (action.Ends method result unlock) = all_behind (unlock_items t unlock) (exit_items program t method) (unlocked t unlock) (left t method)
  action_named t (action.Calls method body takes lock) = all_behind (enter_items program t method) (lock_items t lock) (entered t method) (locked t lock)
  action_named t (action.Returns method result unlock) = all_behind (unlock_items t unlock) (exit_items program t method) (unlocked t unlock) (left t method)
  action_named t (action.Initialises method body) = entered t method
  action_named t (action.Unwinds method last unlock) = all_behind (unlock_items t unlock) (exit_items program t method) (unlocked t unlock) (left t method)
  action_named t (action.FailsToUnlock method e last) = left t method
  action_named t (action.Waits w) = (tt, tt)
  action_named t (action.Retakes w) = (tt, tt)
  action_named t act = tt

  decision_named : (t : ℕ) (d : TurnDecision) → AllByRecursion IsNamed (items_after program t d)
  decision_named t (decision.Applies act) = action_named t act
  decision_named t d = tt

  turn_named : (limits : Limits) (start : Start) (s : State) (t : ℕ) → AllByRecursion IsNamed (turn program limits start s t).items
  unfolding turn
  turn_named limits start s t = decision_named t (decide program limits start s t)

  pub run_named : (limits : Limits) (start : Start) (s : State) (choices : List ℕ) → AllByRecursion IsNamed (run_from program limits start s choices).items
  unfolding run_from
  run_named limits start s [] = tt
  run_named limits start s (t ∷ ts) =
      let row = turn program limits start s t in
      all_behind row.items (run_from program limits start row.state ts).items (turn_named limits start s t) (run_named limits start row.state ts)

-- ---- Written and read

variable_is_valid : (v : Variable) → IsNamedVariable v → VariableHasNumbers v → IsVariable v
variable_is_valid (variable.Instance r f) named numbers = (numbers, named)
variable_is_valid (variable.Static f) named numbers = named
variable_is_valid (variable.Element r i) named numbers = numbers

item_is_valid : (i : Item) → IsNamed i → HasNumbers i → IsItem i
item_is_valid (item.Read t v) named numbers = (numbers.0, variable_is_valid v named numbers.1)
item_is_valid (item.Write t v) named numbers = (numbers.0, variable_is_valid v named numbers.1)
item_is_valid (item.Acquire t r) named numbers = numbers
item_is_valid (item.Release t r) named numbers = numbers
item_is_valid (item.Fork t u) named numbers = numbers
item_is_valid (item.Join t u) named numbers = numbers
item_is_valid (item.Enter t m) named numbers = (numbers.0, named)
item_is_valid (item.Exit t m) named numbers = (numbers.0, named)

are_valid : (items : List Item) → AllByRecursion IsNamed items → AllByRecursion HasNumbers items → AllByRecursion IsItem items
are_valid [] named numbers = tt
are_valid (i ∷ items) named numbers = (item_is_valid i named.0 numbers.0, are_valid items named.1 numbers.1)

pub files_named : (files : List ClassFile) (limits : Limits) (start : Start) (s : State) (choices : List ℕ) → AllByRecursion IsSpelled files → AllByRecursion IsNamed (run_from (program_of files) limits start s choices).items
files_named files limits start s choices spelled = run_named (program_of files) (program_named files spelled) limits start s choices

pub files_again : (files : List ClassFile) (limits : Limits) (start : Start) (s : State) (choices : List ℕ) (answer : Result (List Item) TraceFault) → AllByRecursion IsSpelled files
    → AllByRecursion HasNumbers (run_from (program_of files) limits start s choices).items → IsRead (trace_text (run_from (program_of files) limits start s choices).items) answer
    → (answer ≡ Ok (run_from (program_of files) limits start s choices).items) ⊎ (answer ≡ Err fault.Memory)
files_again files limits start s choices answer spelled numbers read =
    let items = (run_from (program_of files) limits start s choices).items in
    read_again items answer (are_valid items (files_named files limits start s choices spelled) numbers) read
