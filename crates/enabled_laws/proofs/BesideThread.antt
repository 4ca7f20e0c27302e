-- The changes of an action besides its own thread: objects of the heap, and no other thread.
use Rattle.enabled_laws.proofs.Heaps.{AreSized, Extends, extends_appended, extends_itself, extends_written, fields_themselves, written_sized}
use Rattle.enabled_laws.proofs.KnownEffects.{IsKnownEffect}
use Rattle.jvms_file.specs.Descriptors.{field_type, units_of}
use Rattle.jvms_machine.proofs.HeapGrowth.{Becomes}
use Rattle.jvms_machine.specs.Actions.{after_effect, put_field, put_static, with_class_constants, with_exception, with_lock, with_unlock}
use Rattle.jvms_machine.specs.Fields.{fields_of}
use Rattle.jvms_machine.specs.Heap.{with_element, with_field, with_object, with_value}
use Rattle.jvms_machine.specs.Places.{value_size}
use Rattle.jvms_machine.specs.State.{Object, State, array, class_object, instance, object_at, text}
use Rattle.jvms_machine.specs.declared.action.Effect.{Effect}
use Rattle.jvms_machine.specs.declared.action.Exception.{Exception}
use Rattle.jvms_machine.specs.declared.action.Lock.{Lock}
use Rattle.jvms_machine.specs.declared.action.MonitorUse.{MonitorUse}
use Rattle.jvms_machine.specs.declared.value.Value.{Value}
use Rattle.jvms_program.specs.Program.{field_key_at}
use Rattle.jvms_program.specs.declared.key.FieldKey.{FieldKey}
use Rattle.jvms_program.specs.declared.program.Class.{Class}
use Rattle.std.proofs.Common.{Bool, IfSome, List, None, Option, Some, [], arith, false, refl, slice_get, slice_set, subst, suc, sym, true, zero, ℕ, ◌-◌, ◌≡◌}
use Rattle.std.proofs.lemmas.Bool.{false≢true}
use Rattle.jvms_machine.specs.declared.action.Effect.TheVariants as effect
use Rattle.jvms_machine.specs.declared.action.Exception.TheVariants as exception
use Rattle.jvms_machine.specs.declared.action.Lock.TheVariants as lock

-- ---- Objects

field_becomes : (key : FieldKey) (v : Value) (o : Object) → Becomes o (with_field key v o)
field_becomes key v (instance class fields) = (with_value key v fields, refl)
field_becomes key v (array class elements) = (elements, refl)
field_becomes key v (text units) = refl
field_becomes key v (class_object name) = refl

element_becomes : (i : ℕ) (v : Value) (o : Object) → Becomes o (with_element i v o)
element_becomes i v (array class elements) = (slice_set elements i v, refl)
element_becomes i v (instance class fields) = (fields, refl)
element_becomes i v (text units) = refl
element_becomes i v (class_object name) = refl

field_sized : (key : FieldKey) (v : Value) → value_size v ≡ units_of (field_type key.descriptor) → (o : Object) → AreSized (fields_of o) (fields_of (with_field key v o))
field_sized key v size (instance class fields) = written_sized key v fields size
field_sized key v size (array class elements) = fields_themselves []
field_sized key v size (text units) = fields_themselves []
field_sized key v size (class_object name) = fields_themselves []

element_sized : (i : ℕ) (v : Value) (o : Object) → AreSized (fields_of o) (fields_of (with_element i v o))
element_sized i v (instance class fields) = fields_themselves fields
element_sized i v (array class elements) = fields_themselves []
element_sized i v (text units) = fields_themselves []
element_sized i v (class_object name) = fields_themselves []

object_by : (heap : List Object) (i : ℕ) (change : Object → Object) (o : Option Object) → slice_get heap i ≡ o → ((p : Object) → Becomes p (change p)) → ((p : Object) → AreSized (fields_of p) (fields_of (change p))) → Extends heap (with_object heap (suc i) change o)
object_by heap i change None at becomes sized = extends_itself heap
object_by heap i change (Some o) at becomes sized = let e : suc i - 1 ≡ i = omega arith in rw e (extends_written heap i o (change o) at (becomes o) (sized o))

changed_object : (heap : List Object) (r : ℕ) (change : Object → Object) → ((p : Object) → Becomes p (change p)) → ((p : Object) → AreSized (fields_of p) (fields_of (change p))) → Extends heap (with_object heap r change (object_at heap r))
changed_object heap zero change becomes sized = extends_itself heap
changed_object heap (suc i) change becomes sized = object_by heap i change (slice_get heap i) refl becomes sized

-- ---- Beside the thread

-- The heap extends, and the threads are the same.
pub record IsBeside (s made : State) : Type 0 where
  pub heap : Extends s.heap made.heap
  pub threads : made.threads ≡ s.threads

pub beside_itself : (s : State) → IsBeside s s
beside_itself s = record { heap = extends_itself s.heap; threads = refl }

-- The heap extends and the threads are the same if both are unchanged.
pub beside_heap : (s made : State) → made.heap ≡ s.heap → made.threads ≡ s.threads → IsBeside s made
beside_heap s made heap threads = record { heap = subst (Extends s.heap) (sym heap) (extends_itself s.heap); threads = threads }

pub exception_beside : (program : List Class) (s : State) (e : Exception) → IsBeside s (with_exception program s e)
exception_beside program s (exception.New class) = record { heap = extends_appended s.heap _; threads = refl }
exception_beside program s (exception.Existing r) = beside_itself s

field_beside : (s : State) (r : ℕ) (v : Value) (o : Option FieldKey) → IfSome o (λ key. value_size v ≡ units_of (field_type key.descriptor)) → IsBeside s (put_field s r v o)
field_beside s r v None size = beside_itself s
field_beside s r v (Some key) size = record { heap = changed_object s.heap r (with_field key v) (field_becomes key v) (field_sized key v size); threads = refl }

static_beside : (s : State) (v : Value) (o : Option FieldKey) → IsBeside s (put_static s v o)
static_beside s v None = beside_itself s
static_beside s v (Some key) = beside_heap s _ refl refl

pub constants_beside : (s : State) (o : Option Class) → IsBeside s (with_class_constants s o)
constants_beside s None = beside_itself s
constants_beside s (Some c) = record { heap = extends_appended s.heap _; threads = refl }

pub lock_beside : (program : List Class) (s : State) (t : ℕ) (locked : Lock) → IsBeside s (with_lock program s t locked)
lock_beside program s t lock.Nothing = beside_itself s
lock_beside program s t (lock.Monitor monitor) = beside_heap s _ refl refl
lock_beside program s t (lock.NewClass class r) = record { heap = extends_appended s.heap _; threads = refl }

pub unlock_beside : (s : State) (unlock : Option MonitorUse) → IsBeside s (with_unlock s unlock)
unlock_beside s None = beside_itself s
unlock_beside s (Some monitor) = beside_heap s _ refl refl

-- Decides whether an effect starts no thread.
abbrev pub starts_none : Effect (List ℕ) → Bool
starts_none (effect.Starts r u) = false
starts_none _ = true

pub effect_beside : (program : List Class) (s : State) (t : ℕ) (operands : List Value) (what : Effect (List ℕ)) → starts_none what ≡ true → IsKnownEffect program s what → IsBeside s (after_effect program s t operands what)
effect_beside program s t operands effect.Nothing none known = beside_itself s
effect_beside program s t operands (effect.GetField r n) none known = beside_itself s
effect_beside program s t operands (effect.PutField r n v) none known = field_beside s r v (field_key_at program n) known
effect_beside program s t operands (effect.GetStatic n) none known = beside_itself s
effect_beside program s t operands (effect.PutStatic n v) none known = static_beside s v (field_key_at program n)
effect_beside program s t operands (effect.LoadElement r i) none known = beside_itself s
effect_beside program s t operands (effect.StoreElement r i v) none known =
    record { heap = changed_object s.heap r (with_element i v) (element_becomes i v) (element_sized i v); threads = refl }
effect_beside program s t operands (effect.Creates what) none known = record { heap = extends_appended s.heap _; threads = refl }
effect_beside program s t operands (effect.Prints what ends_line) none known = beside_heap s _ refl refl
effect_beside program s t operands (effect.Locks monitor) none known = beside_heap s _ refl refl
effect_beside program s t operands (effect.Unlocks monitor) none known = beside_heap s _ refl refl
effect_beside program s t operands (effect.Starts r u) none known = absurd (false≢true none)
effect_beside program s t operands (effect.Joins u) none known = beside_itself s
effect_beside program s t operands (effect.Notifies r all) none known = beside_heap s _ refl refl
