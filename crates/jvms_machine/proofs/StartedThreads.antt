-- A sound state stays sound when a thread is started of an object that no other thread has.
use Rattle.std.proofs.Common.{◌≡◌, ℕ, zero, suc, ◌+◌, ◌<◌, false, List, [], ◌∷◌, ◌++◌, length, Option, Some, None, IfSome, slice_get, refl, ◌∙◌, arith, length-append}
use Rattle.std.specs.List.{AllByRecursion}
use Rattle.std.proofs.lemmas.Option.{none-some}
use Rattle.jvms_machine.specs.declared.machine.Limits.{Limits}
use Rattle.jvms_program.specs.declared.program.Class.{Class}
use Rattle.jvms_machine.specs.State.{State, Thread, new_thread, same_object, initialisation_frames, IsReference, IsThread, HaveOwnObjects, Sound}
use Rattle.jvms_machine.proofs.ListLaws.{all_append}
use Rattle.jvms_machine.proofs.ThreadChanges.{WaitAlike, monitors_among, waiters_among}

-- A property of the first thread is kept when threads are appended.
first_stays : (threads more : List Thread) (t : ℕ) (thread : Thread) → slice_get threads t ≡ Some thread → IfSome (slice_get threads 0) (λ u. u.object ≡ None) → IfSome (slice_get (threads ++ more) 0) (λ u. u.object ≡ None)
first_stays [] more t thread at none = absurd (none-some thread at)
first_stays (u ∷ us) more t thread at none = none

-- No thread has an object for which none is found.
none_is : (r : ℕ) (threads : List Thread) → AllByRecursion (λ u. same_object u.object (Some r) ≡ false) threads → (own : HaveOwnObjects threads) → HaveOwnObjects (threads ++ new_thread (Some r) ∷ [])
none_is r [] apart own = (tt, tt)
none_is r (u ∷ us) apart own =
    (all_append (λ v. same_object u.object v.object ≡ false) us (new_thread (Some r) ∷ []) own.0 (apart.0, tt), none_is r us apart.1 own.1)

-- A new thread has no frame.
new_frames : (threads : List Thread) (object : Option ℕ) (u class : ℕ) → initialisation_frames class (slice_get (threads ++ new_thread object ∷ []) u) ≡ initialisation_frames class (slice_get threads u)
new_frames [] object zero class = refl
new_frames [] object (suc u) class = refl
new_frames (v ∷ vs) object zero class = refl
new_frames (v ∷ vs) object (suc u) class = new_frames vs object u class

-- A new thread doesn't wait.
new_waits : (threads : List Thread) (object : Option ℕ) → WaitAlike threads (threads ++ new_thread object ∷ [])
new_waits [] object zero r = refl
new_waits [] object (suc u) r = refl
new_waits (v ∷ vs) object zero r = refl
new_waits (v ∷ vs) object (suc u) r = new_waits vs object u r

pub started_is_sound : {program : List Class} {limits : Limits} {s : State} (t : ℕ) (thread : Thread) (r : ℕ) → Sound program limits s → slice_get s.threads t ≡ Some thread → IsReference s.heap r → AllByRecursion (λ (u : Thread). same_object u.object (Some r) ≡ false) s.threads → length s.threads < limits.threads → Sound program limits (record s { threads = s.threads ++ new_thread (Some r) ∷ [] })
started_is_sound {program = program} {limits = limits} {s = s} t thread r sound at reference apart room =
    let new = new_thread (Some r) in
    let longer : length (s.threads ++ new ∷ []) ≡ length s.threads + 1 = length-append s.threads (new ∷ []) in
    record {
      opened = sound.opened;
      objects_are = sound.objects_are;
      monitors = monitors_among s.heap s.threads (s.threads ++ new ∷ []) (omega arith) (new_waits s.threads (Some r)) s.monitors sound.monitors;
      waiters = waiters_among s.threads (s.threads ++ new ∷ []) (new_waits s.threads (Some r)) s.waiters sound.waiters;
      out_of_memory = sound.out_of_memory;
      stack_overflow = sound.stack_overflow;
      statics = sound.statics;
      static_values = sound.static_values;
      classes = sound.classes;
      threads = all_append (IsThread program limits s.heap) s.threads (new ∷ []) sound.threads ((tt, tt, omega arith, tt, reference, tt), tt);
      first_thread = first_stays s.threads (new ∷ []) t thread at sound.first_thread;
      own_objects = none_is r s.threads apart sound.own_objects;
      initialised = λ u class. new_frames s.threads (Some r) u class ∙ sound.initialised u class;
      result = sound.result;
      objects = sound.objects;
      elements = sound.elements;
      thread_count = omega arith;
    }
