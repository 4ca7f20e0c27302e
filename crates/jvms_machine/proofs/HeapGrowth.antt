-- A sound state stays sound when its heap grows: with more objects, and with other values in the existing ones.
use Rattle.std.proofs.Common.{◌≡◌, ℕ, zero, suc, ◌+◌, ◌≤◌, List, [], ◌∷◌, ◌++◌, length, Some, IfSome, IsTrue, codes, slice_get, slice_set, get_or, length-set, refl, sym, ap, ◌∙◌, subst, ⊎_elim, arith}
use Rattle.std.specs.List.{AllByRecursion}
use Rattle.std.proofs.lemmas.Bool.{cases_eq}
use Rattle.std.proofs.lemmas.Option.{IfSome_then, none-some, same_Some, slice_get-get_or}
use Rattle.std.proofs.lemmas.List.{length-append}
use Rattle.jvms_machine.specs.declared.value.Value.{Value}
use Rattle.jvms_machine.specs.declared.value.Value.TheVariants as value
use Rattle.jvms_machine.specs.declared.machine.Limits.{Limits}
use Rattle.jvms_machine.specs.declared.state.Hold.{Hold}
use Rattle.jvms_machine.specs.declared.state.StackFrame.TheVariants as stack_frame
use Rattle.jvms_program.specs.declared.program.Class.{Class}
use Rattle.jvms_program.specs.declared.key.FieldKey.{FieldKey}
use Rattle.jvms_program.specs.Resolution.{fits}
use Rattle.jvms_machine.specs.State.{State, Object, instance, array, text, class_object, Thread, Frame, object_at, class_of, keys, IsReference, IsValue, IsObject, AreMonitors, IsFrame, IsThrowable, IsThread, IsErrorObject, Sound}
use Rattle.jvms_machine.proofs.ListLaws.{all_weaker, all_append, appended_within, get_set_same, get_set_other}

-- ---- Heaps that grow

-- An object may become an instance or an array of its class. A string or a class object stays as it is.
abbrev pub Becomes : Object → Object → Type 0
Becomes (instance class fields) now = (others : List (FieldKey × Value)) × (now ≡ instance class others)
Becomes (array class elements) now = (others : List Value) × (now ≡ array class others)
Becomes was now = now ≡ was

pub becomes_itself : (o : Object) → Becomes o o
becomes_itself (instance class fields) = (fields, refl)
becomes_itself (array class elements) = (elements, refl)
becomes_itself (text units) = refl
becomes_itself (class_object name) = refl

class_stays : (was now : Object) → Becomes was now → class_of now ≡ class_of was
class_stays (instance class fields) now is = ap class_of is.1
class_stays (array class elements) now is = ap class_of is.1
class_stays (text units) now is = ap class_of is
class_stays (class_object name) now is = ap class_of is

-- The object of each reference is still there, perhaps in its later form.
pub record Grows (before after : List Object) : Type 0 where
  pub longer : length before ≤ length after
  pub there : (r : ℕ) (o : Object) → object_at before r ≡ Some o → (now : Object) × (object_at after r ≡ Some now) × Becomes o now

pub grows_not : (heap : List Object) → Grows heap heap
grows_not heap = record { longer = omega arith; there = λ r o is. (o, is, becomes_itself o) }

pub grown_length : (heap new : List Object) → length (heap ++ new) ≡ length heap + length new
grown_length heap new = length-append heap new

-- A heap with more objects has grown.
pub appended_grows : (heap new : List Object) → Grows heap (heap ++ new)
appended_grows heap new = let longer = grown_length heap new in record { longer = omega arith; there = there }
  where
    there : (r : ℕ) (o : Object) → object_at heap r ≡ Some o → (now : Object) × (object_at (heap ++ new) r ≡ Some now) × Becomes o now
    there zero o is = absurd (none-some o is)
    there (suc i) o is = (o, appended_within heap new i o is, becomes_itself o)

-- A heap in which an object has its later form has grown.
pub written_grows : (heap : List Object) (i : ℕ) (was now : Object) → slice_get heap i ≡ Some was → Becomes was now → Grows heap (slice_set heap i now)
written_grows heap i was now at becomes = let same = length-set heap i now in record { longer = omega arith; there = there }
  where
    there : (r : ℕ) (o : Object) → object_at heap r ≡ Some o → (p : Object) × (object_at (slice_set heap i now) r ≡ Some p) × Becomes o p
    there zero o is = absurd (none-some o is)
    there (suc j) o is =
        ⊎_elim
        (λ (same : j ≡ i).
        let it : was ≡ o = same_Some was o (sym at ∙ ap (slice_get heap) (sym same) ∙ is) in
        (now, ap (slice_get (slice_set heap i now)) same ∙ get_set_same heap i was now at, subst (λ p. Becomes p now) it becomes))
        (λ (other : j ≡ i → ⊥). (o, get_set_other heap i j now other ∙ is, becomes_itself o))
        (cases_eq j i)

-- ---- Unchanged properties

module _ (heap after : List Object) (grows : Grows heap after) where
  -- A reference of the heap is one of the grown heap.
  pub reference_grows : (r : ℕ) → IsReference heap r → IsReference after r
  reference_grows r is = let longer = grows.longer in (is.0, omega arith)

  pub value_grows : (v : Value) → IsValue heap v → IsValue after v
  value_grows (value.Reference r) is = reference_grows r is
  value_grows _ is = tt

  pub values_grow : (vs : List Value) → AllByRecursion (IsValue heap) vs → AllByRecursion (IsValue after) vs
  values_grow vs all = all_weaker (IsValue heap) (IsValue after) value_grows vs all

  pub fields_grow : (fields : List (FieldKey × Value)) → AllByRecursion (λ f. IsValue heap f.1) fields → AllByRecursion (λ f. IsValue after f.1) fields
  fields_grow fields all = all_weaker (λ f. IsValue heap f.1) (λ f. IsValue after f.1) (λ f is. value_grows f.1 is) fields all

  pub known_object_grows : (program : List Class) (o : Object) → IsObject program heap o → IsObject program after o
  known_object_grows program (instance class fields) is = (is.0, fields_grow fields is.1)
  known_object_grows program (array class elements) is = values_grow elements is
  known_object_grows program (text units) is = tt
  known_object_grows program (class_object name) is = tt

  error_object_grows : (r : ℕ) (class : List ℕ) → IsErrorObject heap r class → IsErrorObject after r class
  error_object_grows r class is =
      let now = grows.there r (instance class is.0) is.1 in
      (now.2.0, now.1 ∙ ap (λ (o : Object). Some o) now.2.1)

  monitors_grow : (threads : List Thread) (monitors : List (ℕ × Hold)) → AreMonitors heap threads monitors → AreMonitors after threads monitors
  monitors_grow threads [] are = tt
  monitors_grow threads (m ∷ monitors) are = (reference_grows m.0 are.0, are.1, are.2, monitors_grow threads monitors are.3)

  frame_grows : (program : List Class) (f : Frame) → IsFrame program heap f → IsFrame program after f
  frame_grows program (stack_frame.Call f) is =
      (is.0, is.1, values_grow f.activation.locals is.2, values_grow f.activation.operands is.3, IfSome_then f.monitor is.4 reference_grows, is.5)
  frame_grows program (stack_frame.Initialisation class called) is = is

  -- A pending exception stays a Throwable.
  throwable_grows : (program : List Class) (r : ℕ) → IsThrowable program heap r → IsThrowable program after r
  throwable_grows program zero is = absurd (omega (arith, is.1.0))
  throwable_grows program (suc i) is =
      let was = get_or heap i (text []) in
      let at : slice_get heap i ≡ Some was = slice_get-get_or heap i (text []) (omega (arith, is.1.1)) in
      let now = grows.there (suc i) was at in
      let is_throwable = λ (o : Object). IsTrue (fits program (class_of o) (codes "java/lang/Throwable")) in
      let was_throwable : is_throwable was = subst (λ o. IfSome o is_throwable) at is.0 in
      let now_throwable : is_throwable now.0 = subst (λ c. IsTrue (fits program c (codes "java/lang/Throwable"))) (sym (class_stays was now.0 now.2)) was_throwable in
      (subst (λ o. IfSome o is_throwable) (sym now.1) now_throwable, reference_grows (suc i) is.1)

  thread_grows : (program : List Class) (limits : Limits) (t : Thread) → IsThread program limits heap t → IsThread program limits after t
  thread_grows program limits t is =
      (all_weaker (IsFrame program heap) (IsFrame program after) (frame_grows program) t.frames is.0, is.1, is.2, IfSome_then t.pending is.3 (throwable_grows program), IfSome_then t.object is.4 reference_grows, IfSome_then t.waits is.5 (λ w it. (reference_grows w.reference it.0, it.1, it.2, it.3, it.4, it.5)))

-- ---- States that grow

-- The state stays sound with a grown heap, other values of the static fields, another number of elements and another
-- output, if there is room.
pub grown_is_sound : {program : List Class} {limits : Limits} {s : State} → Sound program limits s → (after : List Object) (statics : List (FieldKey × Value)) (elements : ℕ) (output : List ℕ) → Grows s.heap after → AllByRecursion (IsObject program after) after → keys statics ≡ keys s.statics → AllByRecursion (λ f. IsValue after f.1) statics → length after ≤ limits.objects → elements ≤ limits.elements → Sound program limits (record s { heap = after; statics = statics; elements = elements; output = output })
grown_is_sound {program = program} {limits = limits} {s = s} sound after statics elements output grows objects same values room few =
    let heap = s.heap in
    let opened = sound.opened in
    let longer = grows.longer in
    record {
      opened = omega arith;
      objects_are = objects;
      monitors = monitors_grow heap after grows s.threads s.monitors sound.monitors;
      waiters = sound.waiters;
      out_of_memory = error_object_grows heap after grows 1 (codes "java/lang/OutOfMemoryError") sound.out_of_memory;
      stack_overflow = error_object_grows heap after grows 2 (codes "java/lang/StackOverflowError") sound.stack_overflow;
      statics = same ∙ sound.statics;
      static_values = values;
      classes = sound.classes;
      threads = all_weaker (IsThread program limits heap) (IsThread program limits after) (thread_grows heap after grows program limits) s.threads sound.threads;
      first_thread = sound.first_thread;
      own_objects = sound.own_objects;
      initialised = sound.initialised;
      result = IfSome_then s.result sound.result (value_grows heap after grows);
      objects = room;
      elements = few;
      thread_count = sound.thread_count;
    }

-- The objects of a heap, and new ones after them, are objects of the longer heap.
pub objects_with : (program : List Class) (heap new : List Object) → AllByRecursion (IsObject program heap) heap → AllByRecursion (IsObject program (heap ++ new)) new → AllByRecursion (IsObject program (heap ++ new)) (heap ++ new)
objects_with program heap new are new_are =
    let after = heap ++ new in
    all_append (IsObject program after) heap new (all_weaker (IsObject program heap) (IsObject program after) (known_object_grows heap after (appended_grows heap new) program) heap are) new_are

-- The state with new objects is sound, if there is room for them and their elements.
pub appended_is_sound : {program : List Class} {limits : Limits} {s : State} → Sound program limits s → (new : List Object) (elements : ℕ) → AllByRecursion (IsObject program (s.heap ++ new)) new → length s.heap + length new ≤ limits.objects → elements ≤ limits.elements → Sound program limits (record s { heap = s.heap ++ new; elements = elements })
appended_is_sound {program = program} {limits = limits} {s = s} sound new elements are room few =
    let grows = appended_grows s.heap new in
    grown_is_sound sound (s.heap ++ new) s.statics elements s.output grows (objects_with program s.heap new sound.objects_are are) refl
    (fields_grow s.heap (s.heap ++ new) grows s.statics sound.static_values)
    (subst (λ n. n ≤ limits.objects) (sym (grown_length s.heap new)) room) few
