-- The parts of the state on which a thread's turn depends: monitors, threads and waiters.
use Rattle.enabled_laws.proofs.Heaps.{Extends, class_object_kept}
use Rattle.jvms_machine.proofs.MonitorLaws.{held_is}
use Rattle.jvms_machine.specs.State.{AreMonitors, IsHold, IsReference, Object, State, Thread, class_reference, is_class_object, monitor_at, same_object, waits_for}
use Rattle.jvms_machine.specs.Threads.{thread_of}
use Rattle.jvms_machine.specs.Waiting.{is_waiter}
use Rattle.jvms_machine.specs.declared.state.Hold.{Hold}
use Rattle.std.proofs.Common.{Bool, IfSome, List, None, Option, Some, [], ap, arith, cond, eqb-true, false, inl, inr, is_none, length, ne_eqb, not, refl, slice_get, slice_set, subst, suc, sym, true, zero, ℕ, ◌&&◌, ◌+◌, ◌<◌, ◌==◌, ◌∙◌, ◌∷◌, ◌≡◌, ◌≤◌, ◌⊎◌}
use Rattle.std.proofs.lemmas.Bool.{cond_both, true≢false}
use Rattle.std.proofs.lemmas.Iterator.Adapters.{position_from-zero}
use Rattle.std.proofs.lemmas.Option.{same_Some}
use Rattle.std.specs.List.{position_from}

-- ---- Monitors

-- Decides whether a thread may enter a monitor with this hold.
abbrev pub may_enter : ℕ → Option Hold → Bool
may_enter t None = true
may_enter t (Some h) = h.owner == t

-- Decides whether a thread may lock a class's object. If there is none, one is created.
abbrev pub may_lock : ℕ → List (ℕ × Hold) → Option ℕ → Bool
may_lock t monitors None = true
may_lock t monitors (Some r) = may_enter t (monitor_at monitors r)

-- A monitor of a reference beyond the heap is free.
free_behind : (heap : List Object) (threads : List Thread) (monitors : List (ℕ × Hold)) (r : ℕ) → AreMonitors heap threads monitors → length heap < r → monitor_at monitors r ≡ None
free_behind heap threads [] r are behind = refl
free_behind heap threads (m ∷ monitors) r are behind =
    cond_both (m.0 == r) _ _ (λ (o : Option Hold). o ≡ None)
    (λ same. let is = eqb-true m.0 r same in let within = are.0.1 in absurd (omega arith))
    (λ _. free_behind heap threads monitors r are.3 behind)

-- No thread waits for a class object that is new.
new_not_waited : (t : ℕ) (monitors : List (ℕ × Hold)) (test : Object → Bool) (k : ℕ) (ys : List Object) → ((r : ℕ) → k ≤ r → monitor_at monitors r ≡ None) → may_lock t monitors (position_from test k ys) ≡ true
new_not_waited t monitors test k [] free = refl
new_not_waited t monitors test k (y ∷ ys) free =
    cond_both (test y) _ _ (λ (o : Option ℕ). may_lock t monitors o ≡ true)
    (λ _. ap (may_enter t) (free k (omega arith)))
    (λ _. new_not_waited t monitors test (k + 1) ys (λ r behind. free r (omega arith)))

locks_in : (t : ℕ) (monitors : List (ℕ × Hold)) (name : List ℕ) (k : ℕ) (xs ys : List Object) → Extends xs ys → ((r : ℕ) → k + length xs ≤ r → monitor_at monitors r ≡ None) → may_lock t monitors (position_from (is_class_object name) k ys) ≡ may_lock t monitors (position_from (is_class_object name) k xs)
locks_in t monitors name k [] ys extends free = new_not_waited t monitors (is_class_object name) k ys (λ r behind. free r (omega arith))
locks_in t monitors name k (x ∷ xs) [] extends free = absurd extends
locks_in t monitors name k (x ∷ xs) (y ∷ ys) extends free =
    ap (λ b. may_lock t monitors (cond b (Some k) (position_from (is_class_object name) (k + 1) ys))) (class_object_kept name x y extends.0)
    ∙ lock_either (is_class_object name x) (locks_in t monitors name (k + 1) xs ys extends.2 (λ r behind. free r (omega arith)))
  where
    lock_either : (b : Bool) → may_lock t monitors (position_from (is_class_object name) (k + 1) ys) ≡ may_lock t monitors (position_from (is_class_object name) (k + 1) xs) → may_lock t monitors (cond b (Some k) (position_from (is_class_object name) (k + 1) ys)) ≡ may_lock t monitors (cond b (Some k) (position_from (is_class_object name) (k + 1) xs))
    lock_either true e = refl
    lock_either false e = e

-- Whether a thread may lock a class's object is unchanged if owners are kept and the heap extends.
pub locks_kept : (t : ℕ) (heap after : List Object) (threads : List Thread) (monitors others : List (ℕ × Hold)) → Extends heap after → AreMonitors heap threads monitors → ((r : ℕ) → may_enter t (monitor_at others r) ≡ may_enter t (monitor_at monitors r)) → (name : List ℕ) → may_lock t others (class_reference after name) ≡ may_lock t monitors (class_reference heap name)
locks_kept t heap after threads monitors others extends are same name =
    lock_same (class_reference after name) ∙ locks_in t monitors name 1 heap after extends (λ r behind. free_behind heap threads monitors r are (omega arith))
  where
    lock_same : (o : Option ℕ) → may_lock t others o ≡ may_lock t monitors o
    lock_same None = refl
    lock_same (Some r) = same r

-- ---- Threads

-- The threads have the same objects, and the same threads have ended.
abbrev pub AreSameThreads : List Thread → List Thread → Type 0
AreSameThreads [] [] = Unit {0}
AreSameThreads (x ∷ xs) (y ∷ ys) = (y.object ≡ x.object) × (y.ended ≡ x.ended) × AreSameThreads xs ys
AreSameThreads xs ys = ⊥

pub threads_same : (threads : List Thread) → AreSameThreads threads threads
threads_same [] = tt
threads_same (x ∷ xs) = (refl, refl, threads_same xs)

pub threads_set : (threads : List Thread) (t : ℕ) (was now : Thread) → slice_get threads t ≡ Some was → now.object ≡ was.object → now.ended ≡ was.ended → AreSameThreads threads (slice_set threads t now)
threads_set [] t was now at object ended = tt
threads_set (x ∷ xs) zero was now at object ended =
    let is = same_Some x was at in
    (object ∙ sym (ap (λ (w : Thread). w.object) is), ended ∙ sym (ap (λ (w : Thread). w.ended) is), threads_same xs)
threads_set (x ∷ xs) (suc t) was now at object ended = (refl, refl, threads_set xs t was now at object ended)

started_from : (r k : ℕ) (xs ys : List Thread) → AreSameThreads xs ys → position_from (λ (thread : Thread). same_object thread.object (Some r)) k ys ≡ position_from (λ (thread : Thread). same_object thread.object (Some r)) k xs
started_from r k [] [] same = refl
started_from r k [] (y ∷ ys) same = absurd same
started_from r k (x ∷ xs) [] same = absurd same
started_from r k (x ∷ xs) (y ∷ ys) same =
    ap (λ (o : Option ℕ). cond (same_object o (Some r)) (Some k) (position_from (λ (thread : Thread). same_object thread.object (Some r)) (k + 1) ys)) same.0
    ∙ ap (λ (p : Option ℕ). cond (same_object x.object (Some r)) (Some k) p) (started_from r (k + 1) xs ys same.2)

pub started_kept : (r : ℕ) (xs ys : List Thread) → AreSameThreads xs ys → thread_of ys r ≡ thread_of xs r
started_kept r xs ys same =
    let test = λ (thread : Thread). same_object thread.object (Some r) in
    position_from-zero test ys ∙ started_from r 0 xs ys same ∙ sym (position_from-zero test xs)

-- Decides whether a thread has ended. One that doesn't exist hasn't.
abbrev pub is_over : Option Thread → Bool
is_over None = false
is_over (Some thread) = thread.ended

pub ended_kept : (v : ℕ) (xs ys : List Thread) → AreSameThreads xs ys → is_over (slice_get ys v) ≡ is_over (slice_get xs v)
ended_kept v [] [] same = refl
ended_kept v [] (y ∷ ys) same = absurd same
ended_kept v (x ∷ xs) [] same = absurd same
ended_kept zero (x ∷ xs) (y ∷ ys) same = same.1
ended_kept (suc v) (x ∷ xs) (y ∷ ys) same = ended_kept v xs ys same.2

-- ---- Waits

-- Decides whether a waiting thread may take its monitor again: it was notified, and the monitor is free.
abbrev pub may_retake : ℕ → List (ℕ × ℕ) → Option Hold → Bool
may_retake t waiters o = not (is_waiter t waiters) && is_none o

-- The owner of a monitor doesn't wait for its object. So a waiting thread may enter the monitor if and only if it is
-- free.
owner_waits_not : (heap : List Object) (threads : List Thread) (t r : ℕ) (o : Option Hold) → IfSome o (λ h. IsReference heap r × IsHold threads r h) → waits_for r (slice_get threads t) ≡ true → is_none o ≡ may_enter t o
owner_waits_not heap threads t r None held waits = refl
owner_waits_not heap threads t r (Some h) held waits =
    sym (ne_eqb h.owner t (λ same. absurd (true≢false (sym waits ∙ ap (λ v. waits_for r (slice_get threads v)) (sym same) ∙ held.1.3))))

-- Whether a thread awaits its notification is unchanged, or all monitors are kept and its own is held.
abbrev pub WaitStays : State → State → ℕ → ℕ → Type 0
WaitStays s after t r =
    (is_waiter t after.waiters ≡ is_waiter t s.waiters) ⊎ ((is_none (monitor_at s.monitors r) ≡ false) × (after.monitors ≡ s.monitors))

module _ (Rel : Bool → Bool → Type 0) (same : (a b : Bool) → b ≡ a → Rel a b) where
  retake_either : (b x y : Bool) → Rel x y → Rel (not b && x) (not b && y)
  retake_either true x y is = same false false refl
  retake_either false x y is = is

  never_both : (b x : Bool) → x ≡ false → (not b && x) ≡ false
  never_both true x none = refl
  never_both false x none = none

  pub retakes_by : (s after : State) (t r : ℕ) → AreMonitors s.heap s.threads s.monitors → AreMonitors after.heap after.threads after.monitors → waits_for r (slice_get s.threads t) ≡ true → slice_get after.threads t ≡ slice_get s.threads t → Rel (may_enter t (monitor_at s.monitors r)) (may_enter t (monitor_at after.monitors r)) → WaitStays s after t r → Rel (may_retake t s.waiters (monitor_at s.monitors r)) (may_retake t after.waiters (monitor_at after.monitors r))
  retakes_by s after t r are are_after waits kept enters (inl stays) =
      let free : is_none (monitor_at s.monitors r) ≡ may_enter t (monitor_at s.monitors r) = owner_waits_not s.heap s.threads t r (monitor_at s.monitors r) (held_is s.heap s.threads r s.monitors are) waits in
      let free_after : is_none (monitor_at after.monitors r) ≡ may_enter t (monitor_at after.monitors r) = owner_waits_not after.heap after.threads t r (monitor_at after.monitors r) (held_is after.heap after.threads r after.monitors are_after) (ap (waits_for r) kept ∙ waits) in
      subst (λ b. Rel (may_retake t s.waiters (monitor_at s.monitors r)) (not b && is_none (monitor_at after.monitors r))) (sym stays)
      (retake_either (is_waiter t s.waiters) (is_none (monitor_at s.monitors r)) (is_none (monitor_at after.monitors r))
      (subst (λ x. Rel x (is_none (monitor_at after.monitors r))) (sym free) (subst (λ y. Rel (may_enter t (monitor_at s.monitors r)) y) (sym free_after) enters)))
  retakes_by s after t r are are_after waits kept enters (inr held) =
      same (may_retake t s.waiters (monitor_at s.monitors r)) (may_retake t after.waiters (monitor_at after.monitors r))
      (never_both (is_waiter t after.waiters) (is_none (monitor_at after.monitors r)) (ap (λ (ms : List (ℕ × Hold)). is_none (monitor_at ms r)) held.1 ∙ held.0)
      ∙ sym (never_both (is_waiter t s.waiters) (is_none (monitor_at s.monitors r)) held.0))
