-- A sound state stays sound when one thread is replaced by a valid one.
use Rattle.std.proofs.Common.{◌≡◌, ℕ, zero, suc, ◌≤◌, Bool, false, List, [], ◌∷◌, length, Option, Some, None, IfSome, slice_get, slice_set, count_by, refl, sym, ap, ◌∙◌, subst, length-set, length-drop, arith}
use Rattle.std.specs.List.{AllByRecursion}
use Rattle.std.proofs.lemmas.Option.{none-some, same_Some}
use Rattle.jvms_machine.specs.declared.value.Value.{Value}
use Rattle.jvms_machine.specs.declared.machine.Limits.{Limits}
use Rattle.jvms_machine.specs.declared.state.Hold.{Hold}
use Rattle.jvms_machine.specs.declared.state.Initialisation.{Initialisation}
use Rattle.jvms_machine.specs.declared.state.StackFrame.TheVariants as stack_frame
use Rattle.jvms_program.specs.declared.program.Class.{Class}
use Rattle.jvms_machine.specs.State.{State, Object, Activation, Thread, Frame, MethodFrame, IsValue, AreMonitors, AreWaiters, IsFrame, IsStack, IsThread, IsWait, is_wait_for, waits_for, IsReference, IsThrowable, is_initialisation_of, same_object, HaveOwnObjects, IsInitialisedInOrder, Sound}
use Rattle.jvms_machine.specs.Actions.{changed_to, without_arguments}
use Rattle.jvms_machine.proofs.ListLaws.{all_set, all_at, all_drop}
use Rattle.jvms_machine.proofs.InitialisationOrder.{order_with_thread}

-- ---- Threads

-- A thread that is replaced by one with the same Thread object leaves each thread its own object.
pub own_objects_set : (threads : List Thread) (t : ℕ) (thread after : Thread) → slice_get threads t ≡ Some thread → after.object ≡ thread.object → HaveOwnObjects threads → HaveOwnObjects (slice_set threads t after)
own_objects_set [] t thread after at same own = tt
own_objects_set (u ∷ us) zero thread after at same own =
    let is : after.object ≡ u.object = same ∙ sym (ap (λ (v : Thread). v.object) (same_Some u thread at)) in
    (subst (λ object. AllByRecursion (λ v. same_object object v.object ≡ false) us) (sym is) own.0, own.1)
own_objects_set (u ∷ us) (suc t) thread after at same own =
    let apart : same_object u.object thread.object ≡ false = all_at (λ v. same_object u.object v.object ≡ false) us t thread at own.0 in
    (all_set (λ v. same_object u.object v.object ≡ false) us t after (ap (same_object u.object) same ∙ apart) own.0, own_objects_set us t thread after at same own.1)

-- Thread 0 still has no Thread object.
pub first_thread_set : (threads : List Thread) (t : ℕ) (thread after : Thread) → slice_get threads t ≡ Some thread → after.object ≡ thread.object → IfSome (slice_get threads 0) (λ u. u.object ≡ None) → IfSome (slice_get (slice_set threads t after) 0) (λ u. u.object ≡ None)
first_thread_set [] t thread after at same none = tt
first_thread_set (u ∷ us) zero thread after at same none = same ∙ sym (ap (λ (v : Thread). v.object) (same_Some u thread at)) ∙ none
first_thread_set (u ∷ us) (suc t) thread after at same none = none

-- The threads of both lists wait for the same objects.
abbrev pub WaitAlike : List Thread → List Thread → Type 0
WaitAlike threads others = (u r : ℕ) → waits_for r (slice_get others u) ≡ waits_for r (slice_get threads u)

-- No owner of these monitors waits for the object of its monitor.
abbrev pub AreAwake : List Thread → List (ℕ × Hold) → Type 0
AreAwake threads monitors = AllByRecursion (λ m. waits_for m.0 (slice_get threads m.1.owner) ≡ false) monitors

-- The held monitors are also valid among at least as many other threads, if no owner waits for the object of its
-- monitor.
pub monitors_held : (heap : List Object) (threads others : List Thread) → length threads ≤ length others → (monitors : List (ℕ × Hold)) → AreAwake others monitors → AreMonitors heap threads monitors → AreMonitors heap others monitors
monitors_held heap threads others same [] awake are = tt
monitors_held heap threads others same (m ∷ monitors) awake are =
    let given_out = are.1.0 in
    (are.0, (omega arith, are.1.1, are.1.2, awake.0), are.2, monitors_held heap threads others same monitors awake.1 are.3)

pub owners_awake : (heap : List Object) (threads others : List Thread) → ((u r : ℕ) → waits_for r (slice_get threads u) ≡ false → waits_for r (slice_get others u) ≡ false) → (monitors : List (ℕ × Hold)) → AreMonitors heap threads monitors → AreAwake others monitors
owners_awake heap threads others stay [] are = tt
owners_awake heap threads others stay (m ∷ monitors) are =
    (stay m.1.owner m.0 are.1.3, owners_awake heap threads others stay monitors are.3)

-- The held monitors are also valid among threads that wait for the same objects.
pub monitors_among : (heap : List Object) (threads others : List Thread) → length threads ≤ length others → WaitAlike threads others → (monitors : List (ℕ × Hold)) → AreMonitors heap threads monitors → AreMonitors heap others monitors
monitors_among heap threads others same alike monitors are =
    monitors_held heap threads others same monitors (owners_awake heap threads others (λ u r is. alike u r ∙ is) monitors are) are

-- The waiters are also valid among threads that wait for the same objects.
pub waiters_among : (threads others : List Thread) → WaitAlike threads others → (waiters : List (ℕ × ℕ)) → AreWaiters threads waiters → AreWaiters others waiters
waiters_among threads others alike [] are = tt
waiters_among threads others alike (w ∷ waiters) are = (alike w.1 w.0 ∙ are.0, are.1, waiters_among threads others alike waiters are.2)

-- A thread that is replaced by one with the same wait keeps the waits.
pub waits_set : (threads : List Thread) (t : ℕ) (thread after : Thread) → slice_get threads t ≡ Some thread → after.waits ≡ thread.waits → WaitAlike threads (slice_set threads t after)
waits_set [] t thread after at same u r = absurd (none-some thread at)
waits_set (v ∷ vs) zero thread after at same zero r = ap (is_wait_for r) (same ∙ sym (ap (λ (w : Thread). w.waits) (same_Some v thread at)))
waits_set (v ∷ vs) zero thread after at same (suc u) r = refl
waits_set (v ∷ vs) (suc t) thread after at same zero r = refl
waits_set (v ∷ vs) (suc t) thread after at same (suc u) r = waits_set vs t thread after at same u r

-- ---- Stacks

-- The frames below a frame are a stack.
pub stack_below : (program : List Class) (f : Frame) (below : List Frame) → IsStack program (f ∷ below) → IsStack program below
stack_below program f [] stack = tt
stack_below program f (g ∷ below) stack = stack.1

-- An initialisation frame can be above any stack.
pub stack_begun : (program : List Class) (class : ℕ) (called : Bool) (below : List Frame) → IsStack program below → IsStack program (stack_frame.Initialisation class called ∷ below)
stack_begun program class called [] stack = tt
stack_begun program class called (g ∷ below) stack = (tt, stack)

-- A call that continues in its method stays in its stack.
pub stack_goes_on : (program : List Class) (frame : MethodFrame) (after : Activation) (below : List Frame) → IsStack program (stack_frame.Call frame ∷ below) → IsStack program (stack_frame.Call (record frame { activation = after }) ∷ below)
stack_goes_on program frame after [] stack = tt
stack_goes_on program frame after (stack_frame.Call lower ∷ below) stack = stack
stack_goes_on program frame after (stack_frame.Initialisation class called ∷ below) stack = stack

-- A call without the operands that another took is a frame.
pub given_is_frame : (program : List Class) (heap : List Object) (takes : ℕ) (frame : MethodFrame) → IsFrame program heap (stack_frame.Call frame) → IsFrame program heap (stack_frame.Call (without_arguments takes frame))
given_is_frame program heap takes frame is =
    let few : length frame.activation.operands ≤ frame.body.max_stack = is.1.1 in
    (is.0, (is.1.0, omega (arith, length-drop takes frame.activation.operands)), is.2, all_drop (IsValue heap) takes frame.activation.operands is.3, is.4, is.5)

-- ---- A thread of a sound state

-- The state is sound, and these are the frames of its thread t, which doesn't wait.
pub record Stands (program : List Class) (limits : Limits) (s : State) (t : ℕ) (thread : Thread) (frames : List Frame) : Type 0 where
  pub sound : Sound program limits s
  pub given_out : slice_get s.threads t ≡ Some thread
  pub awake : thread.waits ≡ None
  pub frames_are : thread.frames ≡ frames

-- A thread has nothing pending, and has not ended.
abbrev pub IsQuiet : Thread → Type 0
IsQuiet thread = (thread.pending ≡ None) × (thread.ended ≡ false)

-- A thread has the same Thread object, and the same wait.
abbrev pub IsSame : Thread → Thread → Type 0
IsSame after thread = (after.object ≡ thread.object) × (after.waits ≡ thread.waits)

module _ {program : List Class} {limits : Limits} {s : State} {t : ℕ} {thread : Thread} {frames : List Frame} where
  -- A started thread is a valid thread.
  pub thread_is : Stands program limits s t thread frames → IsThread program limits s.heap thread
  thread_is stands = all_at (IsThread program limits s.heap) s.threads t thread stands.given_out stands.sound.threads

  -- Its frames are frames, are a stack, and aren't too many.
  pub frames_are_stack : Stands program limits s t thread frames → AllByRecursion (IsFrame program s.heap) frames × IsStack program frames × (length frames ≤ limits.frames)
  frames_are_stack stands =
      let is = thread_is stands in
      subst (λ (fs : List Frame). AllByRecursion (IsFrame program s.heap) fs × IsStack program fs × (length fs ≤ limits.frames)) stands.frames_are (is.0, is.1, is.2)

  -- Its pending exception is a Throwable.
  pub pending_is : Stands program limits s t thread frames → (r : ℕ) → thread.pending ≡ Some r → IsThrowable program s.heap r
  pending_is stands r is = subst (λ o. IfSome o (IsThrowable program s.heap)) is (thread_is stands).3

  -- A thread stays valid with other valid frames and another pending Throwable.
  pub thread_with : Stands program limits s t thread frames → (after : Thread) (now : List Frame) → after.frames ≡ now → IfSome after.pending (IsThrowable program s.heap) → IsSame after thread → AllByRecursion (IsFrame program s.heap) now → IsStack program now → length now ≤ limits.frames → IsThread program limits s.heap after
  thread_with stands after now are pending same all stack few = (
    subst (AllByRecursion (IsFrame program s.heap)) (sym are) all,
    subst (IsStack program) (sym are) stack,
    subst (λ (fs : List Frame). length fs ≤ limits.frames) (sym are) few,
    pending,
    subst (λ o. IfSome o (IsReference s.heap)) (sym same.0) (thread_is stands).4,
    subst (λ o. IfSome o (IsWait s.heap after)) (sym (same.1 ∙ stands.awake)) tt,
  )

  -- A thread stays valid with other valid frames and the same pending exception.
  pub thread_with_frames : Stands program limits s t thread frames → (after : Thread) (now : List Frame) → after.frames ≡ now → after.pending ≡ thread.pending → IsSame after thread → AllByRecursion (IsFrame program s.heap) now → IsStack program now → length now ≤ limits.frames → IsThread program limits s.heap after
  thread_with_frames stands after now are pending same all stack few =
      thread_with stands after now are (subst (λ o. IfSome o (IsThrowable program s.heap)) (sym pending) (thread_is stands).3) same all stack few

  -- The state stays sound with thread t replaced by a valid thread with the same Thread object and the same wait. The
  -- initialisations must be in order with the threads, and the result must be a value.
  pub changed_is_sound : Stands program limits s t thread frames → (change : Thread → Thread) (initialisations : List Initialisation) (result : Option Value) → IsSame (change thread) thread → IsThread program limits s.heap (change thread) → length initialisations ≡ length s.initialisations → IsInitialisedInOrder (slice_set s.threads t (change thread)) initialisations → IfSome result (IsValue s.heap) → Sound program limits (record s { threads = changed_to s.threads t change (slice_get s.threads t); initialisations = initialisations; result = result })
  changed_is_sound stands change initialisations result same is count order result_is =
      let sound = stands.sound in
      let after = change thread in
      let as_many = length-set s.threads t after in
      subst (λ o. Sound program limits (record s { threads = changed_to s.threads t change o; initialisations = initialisations; result = result })) (sym stands.given_out)
      (record {
        opened = sound.opened;
        objects_are = sound.objects_are;
        monitors = monitors_among s.heap s.threads (slice_set s.threads t after) (omega arith) (waits_set s.threads t thread after stands.given_out same.1) s.monitors sound.monitors;
        waiters = waiters_among s.threads (slice_set s.threads t after) (waits_set s.threads t thread after stands.given_out same.1) s.waiters sound.waiters;
        out_of_memory = sound.out_of_memory;
        stack_overflow = sound.stack_overflow;
        statics = sound.statics;
        static_values = sound.static_values;
        classes = count ∙ sound.classes;
        threads = all_set (IsThread program limits s.heap) s.threads t after is sound.threads;
        first_thread = first_thread_set s.threads t thread after stands.given_out same.0 sound.first_thread;
        own_objects = own_objects_set s.threads t thread after stands.given_out same.0 sound.own_objects;
        initialised = order;
        result = result_is;
        objects = sound.objects;
        elements = sound.elements;
        thread_count = subst (λ n. n ≤ limits.threads) (sym as_many) sound.thread_count;
      })

  -- The state stays sound with other valid frames, another pending Throwable, and the same number of initialisation
  -- frames of each class.
  pub struck_is_sound : Stands program limits s t thread frames → (change : Thread → Thread) (now : List Frame) → (change thread).frames ≡ now → IfSome (change thread).pending (IsThrowable program s.heap) → IsSame (change thread) thread → AllByRecursion (IsFrame program s.heap) now → IsStack program now → length now ≤ limits.frames → ((c : ℕ) → count_by (is_initialisation_of c) now ≡ count_by (is_initialisation_of c) frames) → Sound program limits (record s { threads = changed_to s.threads t change (slice_get s.threads t) })
  struck_is_sound stands change now are pending as_before all stack few same =
      changed_is_sound stands change s.initialisations s.result as_before (thread_with stands (change thread) now are pending as_before all stack few) refl
      (order_with_thread s.threads s.initialisations t thread (change thread) stands.given_out stands.sound.initialised
      (λ c. ap (count_by (is_initialisation_of c)) are ∙ same c ∙ sym (ap (count_by (is_initialisation_of c)) stands.frames_are)))
      stands.sound.result

  -- The state stays sound with other valid frames, the same pending exception, and the same number of initialisation
  -- frames of each class.
  pub moved_is_sound : Stands program limits s t thread frames → (change : Thread → Thread) (now : List Frame) → (change thread).frames ≡ now → (change thread).pending ≡ thread.pending → IsSame (change thread) thread → AllByRecursion (IsFrame program s.heap) now → IsStack program now → length now ≤ limits.frames → ((c : ℕ) → count_by (is_initialisation_of c) now ≡ count_by (is_initialisation_of c) frames) → Sound program limits (record s { threads = changed_to s.threads t change (slice_get s.threads t) })
  moved_is_sound stands change now are pending as_before all stack few same =
      struck_is_sound stands change now are (subst (λ o. IfSome o (IsThrowable program s.heap)) (sym pending) (thread_is stands).3) as_before all stack few same
