-- A turn that throws an exception keeps a sound state sound.
use Rattle.std.proofs.Common.{◌≡◌, ℕ, ◌+◌, ◌<◌, ◌≤◌, Bool, true, leb-true, add-one, List, [], ◌∷◌, ◌++◌, length, Some, IfSome, IsTrue, codes, refl, sym, ap, ◌∙◌, subst, arith}
use Rattle.std.proofs.lemmas.Bool.{cond_both}
use Rattle.jvms_machine.specs.declared.machine.Limits.{Limits}
use Rattle.jvms_machine.specs.declared.action.Exception.{Exception}
use Rattle.jvms_machine.specs.declared.action.Exception.TheVariants as exception
use Rattle.jvms_program.specs.declared.program.Class.{Class}
use Rattle.jvms_program.specs.declared.thrown.Thrown.{Thrown}
use Rattle.jvms_program.specs.declared.thrown.Thrown.TheVariants as thrown
use Rattle.jvms_program.specs.Program.{IsProgram}
use Rattle.jvms_program.specs.Resolution.{fits}
use Rattle.jvms_machine.specs.State.{State, Object, instance, object_at, class_of, first_instance, Thread, Frame, IsThrowable, Sound, IsWait}
use Rattle.jvms_machine.specs.Start.{Start}
use Rattle.jvms_machine.specs.Exceptions.{thrown_class, has_room_for, exception_of, exception_reference, raise_decision, throws}
use Rattle.jvms_machine.specs.Actions.{with_changed, with_exception, applied_to, items_of}
use Rattle.jvms_machine.specs.Marks.{calls_in, calls_of}
use Rattle.jvms_machine.proofs.ListLaws.{appended_at}
use Rattle.jvms_machine.proofs.InitialisationOrder.{order_with_thread}
use Rattle.jvms_machine.proofs.OpeningSoundness.{first_instance_is}
use Rattle.jvms_machine.proofs.HeapGrowth.{grown_length, appended_is_sound}
use Rattle.jvms_machine.proofs.ThrowableClasses.{thrown_fits}
use Rattle.jvms_machine.proofs.MarkLaws.{unmarked_by, changed_calls}
use Rattle.jvms_machine.proofs.ThreadChanges.{Stands, thread_is, changed_is_sound}
use Rattle.jvms_machine.proofs.KeptStates.{Keeps}

-- ---- The thrown object

-- An object of a class that fits Throwable is a Throwable.
pub throwable_by : (program : List Class) (heap : List Object) (r : ℕ) (o : Object) → object_at heap r ≡ Some o → IsTrue (fits program (class_of o) (codes "java/lang/Throwable")) → (0 < r) × (r ≤ length heap) → IsThrowable program heap r
throwable_by program heap r o at is reference =
    (subst (λ p. IfSome p (λ (q : Object). IsTrue (fits program (class_of q) (codes "java/lang/Throwable")))) (sym at) is, reference)

-- There is room for a new object, and an existing object is a Throwable.
abbrev pub IsThrown : List Class → Limits → State → Exception → Type 0
IsThrown program limits s (exception.New class) = length s.heap + 1 ≤ limits.objects
IsThrown program limits s (exception.Existing r) = IsProgram program → IsThrowable program s.heap r

memory_is_thrown : (program : List Class) (limits : Limits) (s : State) → Sound program limits s → IsThrown program limits s (exception.Existing 1)
unfolding thrown_class
memory_is_thrown program limits s sound = λ is.
    let opened = sound.opened in
    throwable_by program s.heap 1 (instance (codes "java/lang/OutOfMemoryError") sound.out_of_memory.0) sound.out_of_memory.1 (thrown_fits program thrown.OutOfMemoryError is) (omega arith, omega arith)

overflow_is_thrown : (program : List Class) (limits : Limits) (s : State) → Sound program limits s → IsThrown program limits s (exception.Existing 2)
unfolding thrown_class
overflow_is_thrown program limits s sound = λ is.
    let opened = sound.opened in
    throwable_by program s.heap 2 (instance (codes "java/lang/StackOverflowError") sound.stack_overflow.0) sound.stack_overflow.1 (thrown_fits program thrown.StackOverflowError is) (omega arith, omega arith)

pub exception_is_thrown : (program : List Class) (limits : Limits) (s : State) → Sound program limits s → (class : Thrown) → IsThrown program limits s (exception_of limits s class)
exception_is_thrown program limits s sound thrown.OutOfMemoryError = memory_is_thrown program limits s sound
exception_is_thrown program limits s sound thrown.StackOverflowError = overflow_is_thrown program limits s sound
exception_is_thrown program limits s sound class =
    cond_both (has_room_for 1 limits s) (exception.New class) (exception.Existing 1) (IsThrown program limits s)
    (λ room. leb-true (length s.heap + 1) limits.objects room) (λ _. memory_is_thrown program limits s sound)

-- A new object of a thrown class is a Throwable.
new_is_throwable : (program : List Class) (heap : List Object) (class : Thrown) → IsProgram program → IsThrowable program (heap ++ first_instance program (thrown_class class) ∷ []) (length heap + 1)
new_is_throwable program heap class is =
    let new = first_instance program (thrown_class class) in
    let longer = grown_length heap (new ∷ []) in
    throwable_by program (heap ++ new ∷ []) (length heap + 1) new (rw add-one (appended_at heap new)) (thrown_fits program class is) (omega arith, omega arith)

-- The thrown object is a Throwable in the state with it.
pub exception_is_throwable : (program : List Class) (limits : Limits) (s : State) (e : Exception) → IsThrown program limits s e → IsProgram program → IsThrowable program (with_exception program s e).heap (exception_reference s e)
exception_is_throwable program limits s (exception.New class) room is = new_is_throwable program s.heap class is
exception_is_throwable program limits s (exception.Existing r) throwable is = throwable is

-- ---- Its thread

-- The thread has the same frames in the state with the thrown object.
pub stands_with_exception : {program : List Class} {limits : Limits} {s : State} {t : ℕ} {thread : Thread} {frames : List Frame} → Stands program limits s t thread frames → (e : Exception) → IsThrown program limits s e → Stands program limits (with_exception program s e) t thread frames
stands_with_exception {program = program} {limits = limits} {s = s} stands (exception.New class) room =
    let new = first_instance program (thrown_class class) in
    let grown : State = record s { heap = s.heap ++ new ∷ [] } in
    let grown_sound : Sound program limits grown = appended_is_sound stands.sound (new ∷ []) s.elements (first_instance_is program (s.heap ++ new ∷ []) (thrown_class class), tt) room stands.sound.elements in
    record { sound = grown_sound; given_out = stands.given_out; awake = stands.awake; frames_are = stands.frames_are }
stands_with_exception stands (exception.Existing r) throwable = stands

-- A thread with a pending exception, which may have ended with it.
abbrev struck : (Bool → Bool) → ℕ → Thread → Thread
struck finish r thread = record thread { pending = Some r; ended = finish thread.ended }

module _ (program : List Class) (limits : Limits) (t : ℕ) (thread : Thread) (frames : List Frame) (finish : Bool → Bool) where
  raised_is_sound : (s : State) → Stands program limits s t thread frames → (r : ℕ) → IsThrowable program s.heap r → Sound program limits (with_changed s t (struck finish r))
  raised_is_sound s stands r is =
      let was = thread_is stands in
      changed_is_sound stands (struck finish r) s.initialisations s.result (refl, refl) (was.0, was.1, was.2, is, was.4, subst (λ o. IfSome o (IsWait s.heap (struck finish r thread))) (sym stands.awake) tt) refl
      (order_with_thread s.threads s.initialisations t thread (struck finish r thread) stands.given_out stands.sound.initialised (λ c. refl))
      stands.sound.result

  thrown_is_sound : (s : State) → Stands program limits s t thread frames → (e : Exception) → IsThrown program limits s e → IsProgram program → Sound program limits (with_changed (with_exception program s e) t (struck finish (exception_reference s e)))
  thrown_is_sound s stands e thrown is =
      raised_is_sound (with_exception program s e) (stands_with_exception stands e thrown) (exception_reference s e) (exception_is_throwable program limits s e thrown is)

  -- The thread has the same calls.
  thrown_calls : (s : State) → Stands program limits s t thread frames → (e : Exception) (r : ℕ) → calls_of (with_changed (with_exception program s e) t (struck finish r)) t ≡ calls_of s t
  thrown_calls s stands (exception.New class) r = changed_calls s.threads t thread (struck finish r) stands.given_out ∙ sym (ap calls_in stands.given_out)
  thrown_calls s stands (exception.Existing q) r = changed_calls s.threads t thread (struck finish r) stands.given_out ∙ sym (ap calls_in stands.given_out)

-- ---- The turn

module _ (program : List Class) (limits : Limits) (start : Start) (s : State) (t : ℕ) (thread : Thread) (frames : List Frame) (stands : Stands program limits s t thread frames) where
  raise_keeps : (fs : List Frame) (e : Exception) → IsThrown program limits s e → Keeps program limits start s t (raise_decision fs e)
  unfolding applied_to items_of
  raise_keeps [] e is =
      ((λ of_program. thrown_is_sound program limits t thread frames (λ _. true) s stands e is of_program), (λ _ _. tt), unmarked_by program t (calls_of s t) _ (thrown_calls program limits t thread frames (λ _. true) s stands e (exception_reference s e)), (λ _. tt))
  raise_keeps (f ∷ below) e is =
      ((λ of_program. thrown_is_sound program limits t thread frames (λ b. b) s stands e is of_program), (λ _ _. tt), unmarked_by program t (calls_of s t) _ (thrown_calls program limits t thread frames (λ b. b) s stands e (exception_reference s e)), (λ _. tt))

-- The turn of a thread that throws an exception keeps a state sound.
pub throws_keeps : {program : List Class} {limits : Limits} {s : State} {t : ℕ} {thread : Thread} {frames : List Frame} (start : Start) → Stands program limits s t thread frames → (class : Thrown) → Keeps program limits start s t (throws limits s thread class)
unfolding throws
throws_keeps {program = program} {limits = limits} {s = s} {t = t} {thread = thread} {frames = frames} start stands class =
    raise_keeps program limits start s t thread frames stands thread.frames (exception_of limits s class) (exception_is_thrown program limits s stands.sound class)
