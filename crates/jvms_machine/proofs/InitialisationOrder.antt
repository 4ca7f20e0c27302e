-- A turn keeps the classes in progress and the initialisation frames in step.
use Rattle.std.proofs.Common.{◌≡◌, ℕ, ◌+◌, cond, Bool, true, false, eqb, List, ◌∷◌, Option, Some, None, slice_get, slice_set, count_by, refl, sym, ap, ◌∙◌, subst, ⊎_elim, arith, eqb-true, eq-eqb, ne_eqb}
use Rattle.std.proofs.lemmas.Bool.{cases_eq, cases_Bool, cond-true, cond-false}
use Rattle.jvms_machine.specs.declared.state.Initialisation.{Initialisation}
use Rattle.jvms_machine.specs.declared.state.Initialisation.TheVariants.{NotBegun, InProgress, Done, Erroneous}
use Rattle.jvms_machine.specs.declared.state.StackFrame.TheVariants as stack_frame
use Rattle.jvms_machine.specs.State.{Thread, Frame, MethodFrame, is_initialisation_of, initialisation_frames, frames_in_progress, IsInitialisedInOrder}
use Rattle.jvms_machine.proofs.ListLaws.{get_set_same, get_set_other, count_by_cons}

-- ---- Counts

-- If the count of a class in progress by a thread is one plus more, it is one, and the class is in progress by that
-- thread.
progress_of : (t : ℕ) (o : Option Initialisation) (more : ℕ) → 1 + more ≡ frames_in_progress t o → (more ≡ 0) × (o ≡ Some (InProgress t))
progress_of t None more is = absurd (omega arith)
progress_of t (Some NotBegun) more is = absurd (omega arith)
progress_of t (Some Done) more is = absurd (omega arith)
progress_of t (Some Erroneous) more is = absurd (omega arith)
progress_of t (Some (InProgress u)) more is =
    ⊎_elim
    (λ (yes : eqb u t ≡ true).
    let one : 1 + more ≡ 1 = is ∙ cond-true (eqb u t) 1 0 yes in
    (omega arith, ap (λ v. Some (InProgress v)) (eqb-true u t yes)))
    (λ (no : eqb u t ≡ false).
    let none : 1 + more ≡ 0 = is ∙ cond-false (eqb u t) 1 0 no in
    absurd (omega arith))
    (cases_Bool (eqb u t))

-- A class in progress by one thread is in progress by no other.
only_progress : (t u : ℕ) → (u ≡ t → ⊥) → frames_in_progress u (Some (InProgress t)) ≡ 0
only_progress t u other = cond-false (eqb t u) 1 0 (ne_eqb t u (λ same. other (sym same)))

-- A class in progress by a thread counts one for it.
own_progress : (t : ℕ) → frames_in_progress t (Some (InProgress t)) ≡ 1
own_progress t = cond-true (eqb t t) 1 0 (eq-eqb t t refl)

-- An initialisation frame of another class doesn't count.
count_other_class : (c class : ℕ) (called : Bool) (below : List Frame) → (c ≡ class → ⊥) → count_by (is_initialisation_of c) (stack_frame.Initialisation class called ∷ below) ≡ count_by (is_initialisation_of c) below
count_other_class c class called below other =
    let none : cond (eqb class c) 1 0 ≡ 0 = cond-false (eqb class c) 1 0 (ne_eqb class c (λ same. other (sym same))) in
    count_by_cons (is_initialisation_of c) (stack_frame.Initialisation class called) below
    ∙ ap (λ k. k + count_by (is_initialisation_of c) below) none ∙ omega arith

-- An initialisation frame of the class counts one.
count_own_class : (class : ℕ) (called : Bool) (below : List Frame) → count_by (is_initialisation_of class) (stack_frame.Initialisation class called ∷ below) ≡ 1 + count_by (is_initialisation_of class) below
count_own_class class called below =
    let one : cond (eqb class class) 1 0 ≡ 1 = cond-true (eqb class class) 1 0 (eq-eqb class class refl) in
    count_by_cons (is_initialisation_of class) (stack_frame.Initialisation class called) below
    ∙ ap (λ k. k + count_by (is_initialisation_of class) below) one

-- A call doesn't count.
pub count_call : (c : ℕ) (frame : MethodFrame) (below : List Frame) → count_by (is_initialisation_of c) (stack_frame.Call frame ∷ below) ≡ count_by (is_initialisation_of c) below
count_call c frame below =
    let count : count_by (is_initialisation_of c) (stack_frame.Call frame ∷ below) ≡ 0 + count_by (is_initialisation_of c) below = count_by_cons (is_initialisation_of c) (stack_frame.Call frame) below in
    omega arith

-- ---- A turn of one thread

-- A property at one index, and at all others, is one at any index.
at_any_place : (P : ℕ → Type 0) (place x : ℕ) → P place → ((x ≡ place → ⊥) → P x) → P x
at_any_place P place x here elsewhere = ⊎_elim (λ (same : x ≡ place). subst P (sym same) here) elsewhere (cases_eq x place)

-- The number of a thread's initialisation frames of a class is 1 if the class is in progress by it, else 0.
abbrev IsInStep : List Thread → List Initialisation → ℕ → ℕ → Type 0
IsInStep threads initialisations thread class =
    initialisation_frames class (slice_get threads thread) ≡ frames_in_progress thread (slice_get initialisations class)

module _ (threads : List Thread) (initialisations : List Initialisation) (t : ℕ) (thread after : Thread) (given_out : slice_get threads t ≡ Some thread) (order : IsInitialisedInOrder threads initialisations) where
  -- The thread was in step.
  frames_before : (c : ℕ) → count_by (is_initialisation_of c) thread.frames ≡ frames_in_progress t (slice_get initialisations c)
  frames_before c = sym (ap (initialisation_frames c) given_out) ∙ order t c

  -- Its frames are those of the thread after the turn.
  frames_now : (c : ℕ) → initialisation_frames c (slice_get (slice_set threads t after) t) ≡ count_by (is_initialisation_of c) after.frames
  frames_now c = ap (initialisation_frames c) (get_set_same threads t thread after given_out)

  -- The frames of another thread are unchanged.
  frames_elsewhere : (u c : ℕ) → (u ≡ t → ⊥) → initialisation_frames c (slice_get (slice_set threads t after) u) ≡ frames_in_progress u (slice_get initialisations c)
  frames_elsewhere u c other = ap (initialisation_frames c) (get_set_other threads t u after other) ∙ order u c

  -- A thread with the same number of initialisation frames of each class keeps the order.
  pub order_with_thread : ((c : ℕ) → count_by (is_initialisation_of c) after.frames ≡ count_by (is_initialisation_of c) thread.frames) → IsInitialisedInOrder (slice_set threads t after) initialisations
  order_with_thread same = λ u c.
      at_any_place (λ v. IsInStep (slice_set threads t after) initialisations v c) t u (frames_now c ∙ same c ∙ frames_before c) (frames_elsewhere u c)

  -- A class that changes keeps the order if the thread's frames of it change accordingly. Those of other classes stay,
  -- and other threads have the class in progress as before.
  order_with_class : (class : ℕ) (was now : Initialisation) → slice_get initialisations class ≡ Some was → ((c : ℕ) → (c ≡ class → ⊥) → count_by (is_initialisation_of c) after.frames ≡ count_by (is_initialisation_of c) thread.frames) → count_by (is_initialisation_of class) after.frames ≡ frames_in_progress t (Some now) → ((u : ℕ) → (u ≡ t → ⊥) → frames_in_progress u (Some was) ≡ frames_in_progress u (Some now)) → IsInitialisedInOrder (slice_set threads t after) (slice_set initialisations class now)
  order_with_class class was now class_was same here others = λ u c.
      at_any_place (λ v. IsInStep (slice_set threads t after) (slice_set initialisations class now) v c) t u (frames_now c ∙ of_thread c) (λ other. frames_elsewhere u c other ∙ of_another u c other)
    where
      -- The state of the class after the turn.
      written : slice_get (slice_set initialisations class now) class ≡ Some now
      written = get_set_same initialisations class was now class_was

      -- The thread's frames are in step with each class.
      of_thread : (c : ℕ) → count_by (is_initialisation_of c) after.frames ≡ frames_in_progress t (slice_get (slice_set initialisations class now) c)
      of_thread c =
          at_any_place (λ k. count_by (is_initialisation_of k) after.frames ≡ frames_in_progress t (slice_get (slice_set initialisations class now) k)) class c
          (here ∙ sym (ap (frames_in_progress t) written))
          (λ other. same c other ∙ frames_before c ∙ sym (ap (frames_in_progress t) (get_set_other initialisations class c now other)))

      -- Another thread has each class in progress as before.
      of_another : (u c : ℕ) → (u ≡ t → ⊥) → frames_in_progress u (slice_get initialisations c) ≡ frames_in_progress u (slice_get (slice_set initialisations class now) c)
      of_another u c apart =
          at_any_place (λ k. frames_in_progress u (slice_get initialisations k) ≡ frames_in_progress u (slice_get (slice_set initialisations class now) k)) class c
          (ap (frames_in_progress u) class_was ∙ others u apart ∙ sym (ap (frames_in_progress u) written))
          (λ other. sym (ap (frames_in_progress u) (get_set_other initialisations class c now other)))

  -- A class that begins keeps the order: its frame is pushed, and it is in progress.
  pub order_begun : (class : ℕ) → slice_get initialisations class ≡ Some NotBegun → after.frames ≡ stack_frame.Initialisation class false ∷ thread.frames → IsInitialisedInOrder (slice_set threads t after) (slice_set initialisations class (InProgress t))
  order_begun class begins pushed =
      let none : count_by (is_initialisation_of class) thread.frames ≡ 0 = frames_before class ∙ ap (frames_in_progress t) begins in
      order_with_class class NotBegun (InProgress t) begins
      (λ c other. ap (count_by (is_initialisation_of c)) pushed ∙ count_other_class c class false thread.frames other)
      (ap (count_by (is_initialisation_of class)) pushed ∙ count_own_class class false thread.frames ∙ ap (λ k. 1 + k) none ∙ sym (own_progress t))
      (λ u other. sym (only_progress t u other))

  -- A class that becomes done or erroneous keeps the order: its frame is popped, and it is in progress by no thread.
  pub order_over : (class : ℕ) (called : Bool) (now : Initialisation) → ((u : ℕ) → frames_in_progress u (Some now) ≡ 0) → thread.frames ≡ stack_frame.Initialisation class called ∷ after.frames → IsInitialisedInOrder (slice_set threads t after) (slice_set initialisations class now)
  order_over class called now over popped =
      let progress = progress_of t (slice_get initialisations class) (count_by (is_initialisation_of class) after.frames)
      (sym (count_own_class class called after.frames) ∙ sym (ap (count_by (is_initialisation_of class)) popped) ∙ frames_before class) in
      order_with_class class (InProgress t) now progress.1
      (λ c other. sym (count_other_class c class called after.frames other) ∙ sym (ap (count_by (is_initialisation_of c)) popped))
      (progress.0 ∙ sym (over t))
      (λ u other. only_progress t u other ∙ sym (over u))
