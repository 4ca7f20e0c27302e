-- A turn that enters or leaves a monitor keeps a sound state sound.
use Rattle.std.proofs.Common.{◌≡◌, ℕ, ◌+◌, ◌^◌, ◌<◌, ◌≤◌, ◌==◌, true, false, not, List, [], ◌∷◌, ◌++◌, length, Option, Some, None, is_none, is_some, IfSome, IsTrue, refl, sym, ap, ◌∙◌, subst, arith}
use Rattle.std.proofs.lemmas.Bool.{cond_both, eqb-false, not-true, not-false}
use Rattle.std.proofs.lemmas.Option.{none-some, cond_some, slice_get_within}
use Rattle.jvms_machine.specs.declared.machine.Limits.{Limits}
use Rattle.jvms_machine.specs.declared.state.Hold.{Hold}
use Rattle.jvms_machine.specs.declared.action.MonitorUse.{MonitorUse}
use Rattle.jvms_machine.specs.declared.action.Lock.{Lock}
use Rattle.jvms_machine.specs.declared.action.Lock.TheVariants as lock
use Rattle.jvms_program.specs.declared.number.MethodNumber.{MethodNumber}
use Rattle.jvms_program.specs.declared.program.Class.{Class}
use Rattle.jvms_program.specs.declared.program.Method.{Method}
use Rattle.jvms_program.specs.declared.thrown.Thrown.TheVariants as thrown
use Rattle.jvms_machine.specs.Decisions.{TurnDecision}
use Rattle.jvms_machine.specs.State.{State, Thread, Frame, class_object, class_reference, is_class_object, monitor_at, IsReference, IsHold, AreMonitors, Sound}
use Rattle.jvms_machine.specs.Start.{Start}
use Rattle.jvms_machine.specs.Limits.{are_limits}
use Rattle.jvms_machine.specs.Exceptions.{has_room_for}
use Rattle.jvms_machine.specs.Heap.{class_name_at, next_reference}
use Rattle.jvms_machine.specs.Monitors.{monitor_exit_by_hold, monitor_exit, monitor_entry_by_hold, monitor_entry, object_locking, class_locking, call_locking, locked_reference}
use Rattle.jvms_machine.specs.Actions.{with_lock, with_unlock}
use Rattle.jvms_machine.specs.Turn.{CanBeEntered, CanBeLocked}
use Rattle.jvms_machine.proofs.LimitLaws.{limits_have_room, room_is}
use Rattle.jvms_machine.proofs.ThreadChanges.{Stands}
use Rattle.jvms_machine.proofs.HeapGrowth.{Grows, grows_not, appended_grows, grown_length, appended_is_sound}
use Rattle.jvms_machine.proofs.MonitorLaws.{held_is, new_is_free, entered_are, left_are}
use Rattle.jvms_machine.proofs.StoredValues.{found_is_reference}
use Rattle.jvms_machine.proofs.WaiterLaws.{awake_waits_not}
use Rattle.jvms_machine.proofs.KeptStates.{IsLeft, Keeps, still}
use Rattle.jvms_machine.proofs.ExceptionSoundness.{throws_keeps}

-- ---- The held monitors

-- The state stays sound with other valid monitors.
pub monitors_are_sound : {program : List Class} {limits : Limits} {s : State} → Sound program limits s → (monitors : List (ℕ × Hold)) → AreMonitors s.heap s.threads monitors → Sound program limits (record s { monitors = monitors })
monitors_are_sound sound monitors are =
    record {
      opened = sound.opened;
      objects_are = sound.objects_are;
      monitors = are;
      waiters = sound.waiters;
      out_of_memory = sound.out_of_memory;
      stack_overflow = sound.stack_overflow;
      statics = sound.statics;
      static_values = sound.static_values;
      classes = sound.classes;
      threads = sound.threads;
      first_thread = sound.first_thread;
      own_objects = sound.own_objects;
      initialised = sound.initialised;
      result = sound.result;
      objects = sound.objects;
      elements = sound.elements;
      thread_count = sound.thread_count;
    }

-- The known facts about an entered monitor.
abbrev pub IsEntered : State → MonitorUse → Type 0
IsEntered s monitor = IsReference s.heap monitor.reference × CanBeEntered s monitor

-- The known facts about what a call locks.
abbrev pub IsLocked : Limits → State → Lock → Type 0
IsLocked limits s lock.Nothing = Unit {0}
IsLocked limits s (lock.Monitor monitor) = IsEntered s monitor
IsLocked limits s (lock.NewClass class r) = (r ≡ next_reference s.heap) × (length s.heap + 1 ≤ limits.objects)

-- The locked reference is one of the state with it.
pub locked_is_reference : (program : List Class) (limits : Limits) (s : State) (t : ℕ) (locked : Lock) → IsLocked limits s locked → IfSome (locked_reference locked) (IsReference (with_lock program s t locked).heap)
locked_is_reference program limits s t lock.Nothing is = tt
locked_is_reference program limits s t (lock.Monitor monitor) is = is.0
locked_is_reference program limits s t (lock.NewClass class r) is =
    let longer = grown_length s.heap (class_object (class_name_at program class) ∷ []) in
    let same = is.0 in
    (omega arith, omega arith)

-- The heap has grown by the locked object, or is unchanged.
pub locked_grows : (program : List Class) (s : State) (t : ℕ) (locked : Lock) → Grows s.heap (with_lock program s t locked).heap
locked_grows program s t lock.Nothing = grows_not s.heap
locked_grows program s t (lock.Monitor monitor) = grows_not s.heap
locked_grows program s t (lock.NewClass class r) = appended_grows s.heap (class_object (class_name_at program class) ∷ [])

-- Within limits, the lock can be taken.
pub can_be_locked : {program : List Class} {limits : Limits} {s : State} → Sound program limits s → (locked : Lock) → IsLocked limits s locked → IsTrue (are_limits limits) → CanBeLocked s locked
can_be_locked sound lock.Nothing is limited = tt
can_be_locked sound (lock.Monitor monitor) is limited = is.1
can_be_locked {limits = limits} {s = s} sound (lock.NewClass class r) is limited =
    let room = limits_have_room limits limited in
    let same = is.0 in
    let there = is.1 in
    (omega (arith, room.few_objects), new_is_free s.heap s.threads r s.monitors (omega arith) sound.monitors)

module _ {program : List Class} {limits : Limits} {s : State} {t : ℕ} {thread : Thread} {frames : List Frame} (stands : Stands program limits s t thread frames) where
  -- The state in which the thread has entered a monitor is sound.
  pub entered_is_sound : (monitor : MonitorUse) → IsEntered s monitor → Sound program limits (with_lock program s t (lock.Monitor monitor))
  entered_is_sound monitor is =
      monitors_are_sound stands.sound _ (entered_are s.heap s.threads t monitor.reference s.monitors (slice_get_within s.threads t thread stands.given_out) (awake_waits_not s.threads t monitor.reference thread stands.given_out stands.awake) is.0 is.1.1 stands.sound.monitors)

  -- The thread has the same frames after it has locked something.
  pub stands_with_lock : (locked : Lock) → IsLocked limits s locked → Stands program limits (with_lock program s t locked) t thread frames
  stands_with_lock lock.Nothing is = stands
  stands_with_lock (lock.Monitor monitor) is = record { sound = entered_is_sound monitor is; given_out = stands.given_out; awake = stands.awake; frames_are = stands.frames_are }
  stands_with_lock (lock.NewClass class r) is =
      let new = class_object (class_name_at program class) in
      let grown : State = record s { heap = s.heap ++ new ∷ [] } in
      let grown_sound : Sound program limits grown = appended_is_sound stands.sound (new ∷ []) s.elements (tt, tt) is.1 stands.sound.elements in
      let longer = grown_length s.heap (new ∷ []) in
      let same = is.0 in
      let free = new_is_free s.heap s.threads r s.monitors (omega arith) stands.sound.monitors in
      let are = entered_are grown.heap s.threads t r s.monitors (slice_get_within s.threads t thread stands.given_out) (awake_waits_not s.threads t r thread stands.given_out stands.awake) (omega arith, omega arith) (subst (λ o. IfSome o (λ (h : Hold). h.count + 1 < 2 ^ 32)) (sym free) tt) grown_sound.monitors in
      record { sound = monitors_are_sound grown_sound _ are; given_out = stands.given_out; awake = stands.awake; frames_are = stands.frames_are }

  -- The thread has the same frames after it has left a monitor.
  pub stands_with_unlock : (unlock : Option MonitorUse) → Stands program limits (with_unlock s unlock) t thread frames
  stands_with_unlock None = stands
  stands_with_unlock (Some monitor) =
      record { sound = monitors_are_sound stands.sound _ (left_are s.heap s.threads monitor.reference s.monitors stands.sound.monitors); given_out = stands.given_out; awake = stands.awake; frames_are = stands.frames_are }

-- A monitor that a thread leaves is held.
monitor_exit_held_is : (s : State) (t r : ℕ) (o : Option Hold) (monitor : MonitorUse) → monitor_at s.monitors r ≡ o → monitor_exit_by_hold t r o ≡ Some monitor → IsLeft s monitor
monitor_exit_held_is s t r None monitor e is = absurd (none-some monitor is)
monitor_exit_held_is s t r (Some h) monitor e is =
    let used : MonitorUse = record { reference = r; outermost = h.count == 1 } in
    let same = (cond_some (h.owner == t) used monitor is).1 in
    subst (IsLeft s) same (h, e, refl)

pub monitor_exit_is : (s : State) (t r : ℕ) (monitor : MonitorUse) → monitor_exit s t r ≡ Some monitor → IsLeft s monitor
monitor_exit_is s t r monitor is = monitor_exit_held_is s t r (monitor_at s.monitors r) monitor refl is

-- Leaving a monitor doesn't change the heap.
pub unlocked_heap : (s : State) (unlock : Option MonitorUse) → (with_unlock s unlock).heap ≡ s.heap
unlocked_heap s None = refl
unlocked_heap s (Some monitor) = refl

-- ---- The lock of a turn

module _ (program : List Class) (limits : Limits) (start : Start) (s : State) (t : ℕ) (thread : Thread) {frames : List Frame} (stands : Stands program limits s t thread frames) where
  abbrev KeepsSound : TurnDecision → Type 0
  KeepsSound d = Keeps program limits start s t d

  monitor_entry_held_keeps : (r : ℕ) (o : Option Hold) (make : MonitorUse → TurnDecision) → monitor_at s.monitors r ≡ o → IfSome o (λ h. IsReference s.heap r × IsHold s.threads r h) → IsReference s.heap r → ((monitor : MonitorUse) → IsEntered s monitor → KeepsSound (make monitor)) → KeepsSound (monitor_entry_by_hold limits s t thread r o make)
  monitor_entry_held_keeps r None make e held reference keeps =
      keeps (record { reference = r; outermost = true }) (reference, (sym (ap is_none e), subst (λ o. IfSome o (λ (h : Hold). h.count + 1 < 2 ^ 32)) (sym e) tt))
  monitor_entry_held_keeps r (Some h) make e held reference keeps =
      cond_both (not (h.owner == t)) _ _ KeepsSound
      (λ _. still t stands.sound)
      (λ _. cond_both (h.count == 4294967295) _ _ KeepsSound
      (λ _. throws_keeps start stands thrown.OutOfMemoryError)
      (λ fewer.
      let few = held.1.2 in
      let other = eqb-false h.count 4294967295 fewer in
      keeps (record { reference = r; outermost = false }) (reference, (sym (ap is_none e), subst (λ o. IfSome o (λ (k : Hold). k.count + 1 < 2 ^ 32)) (sym e) (omega arith)))))

  -- The monitor of an existing object is entered.
  pub monitor_entry_keeps : (r : ℕ) (make : MonitorUse → TurnDecision) → IsReference s.heap r → ((monitor : MonitorUse) → IsEntered s monitor → KeepsSound (make monitor)) → KeepsSound (monitor_entry limits s t thread r make)
  monitor_entry_keeps r make reference keeps =
      monitor_entry_held_keeps r (monitor_at s.monitors r) make refl (held_is s.heap s.threads r s.monitors stands.sound.monitors) reference keeps

  -- The turns after a lock keep the state sound, if something is locked.
  abbrev AllKeep : (Lock → TurnDecision) → Type 0
  AllKeep make = (locked : Lock) → IsLocked limits s locked → is_some (locked_reference locked) ≡ true → KeepsSound (make locked)

  object_locking_keeps : (receiver : Option ℕ) (make : Lock → TurnDecision) → IfSome receiver (IsReference s.heap) → AllKeep make → KeepsSound (object_locking limits s t thread receiver make)
  object_locking_keeps None make is keeps = still t stands.sound
  object_locking_keeps (Some r) make is keeps = monitor_entry_keeps r (λ monitor. make (lock.Monitor monitor)) is (λ monitor entered. keeps (lock.Monitor monitor) entered refl)

  class_locking_keeps : (class : ℕ) (o : Option ℕ) (make : Lock → TurnDecision) → ((r : ℕ) → o ≡ Some r → IsReference s.heap r) → AllKeep make → KeepsSound (class_locking limits s t thread class o make)
  class_locking_keeps class (Some r) make is keeps =
      monitor_entry_keeps r (λ monitor. make (lock.Monitor monitor)) (is r refl) (λ monitor entered. keeps (lock.Monitor monitor) entered refl)
  class_locking_keeps class None make is keeps =
      cond_both (has_room_for 1 limits s) _ _ KeepsSound
      (λ has. keeps (lock.NewClass class (next_reference s.heap)) (refl, room_is 1 limits s has) refl)
      (λ _. throws_keeps start stands thrown.OutOfMemoryError)

  -- A call of a method locks something if and only if the method is synchronized.
  pub call_locking_keeps : (n : MethodNumber) (m : Method) (receiver : Option ℕ) (make : Lock → TurnDecision) → IfSome receiver (IsReference s.heap) → ((locked : Lock) → IsLocked limits s locked → is_some (locked_reference locked) ≡ m.flags.is_synchronized → KeepsSound (make locked)) → KeepsSound (call_locking program limits s t thread n m receiver make)
  call_locking_keeps n m receiver make is keeps =
      let name = class_name_at program n.class in
      cond_both (not m.flags.is_synchronized) _ _ KeepsSound
      (λ plain. keeps lock.Nothing tt (sym (not-true m.flags.is_synchronized plain)))
      (λ synchronized.
      let all = λ (locked : Lock) (it : IsLocked limits s locked) (some : is_some (locked_reference locked) ≡ true). keeps locked it (some ∙ sym (not-false m.flags.is_synchronized synchronized)) in
      cond_both m.flags.is_static _ _ KeepsSound
      (λ _. class_locking_keeps n.class (class_reference s.heap name) make (λ r found. found_is_reference (is_class_object name) s.heap r found) all)
      (λ _. object_locking_keeps receiver make is all))
