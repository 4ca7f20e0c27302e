-- The waiters of objects, and the owners of monitors, when a thread waits, is notified, or retakes a monitor.
use Rattle.std.proofs.Common.{◌≡◌, ℕ, zero, suc, ◌==◌, Bool, true, false, not, ◌||◌, List, [], ◌∷◌, ◌++◌, Some, None, slice_get, slice_set, ◌<◌, refl, sym, ap, ◌∙◌, subst, ⊎_elim, ne_eqb, arith}
use Rattle.std.specs.List.{AllByRecursion, filter}
use Rattle.std.specs.Map.{remove_entry}
use Rattle.std.proofs.lemmas.Bool.{cond_both, eqb-true, eqb-false, false≢true, cases_Bool}
use Rattle.jvms_machine.specs.declared.state.Hold.{Hold}
use Rattle.jvms_machine.specs.declared.state.Wait.{Wait}
use Rattle.jvms_machine.specs.State.{Object, Thread, AreMonitors, AreWaiters, is_wait_for, waits_for}
use Rattle.jvms_machine.specs.Waiting.{freed_monitor, is_waiter, without_notified}
use Rattle.jvms_machine.proofs.ListLaws.{all_weaker, all_append, all_both, get_set_other}
use Rattle.jvms_machine.proofs.ThreadChanges.{AreAwake, owners_awake}

-- ---- The waits of threads

-- A thread that doesn't wait waits for no object.
pub awake_waits_not : (threads : List Thread) (t r : ℕ) (thread : Thread) → slice_get threads t ≡ Some thread → thread.waits ≡ None → waits_for r (slice_get threads t) ≡ false
awake_waits_not threads t r thread at awake = ap (waits_for r) at ∙ ap (is_wait_for r) awake

-- A thread that begins to wait for an object waits for no other.
pub put_waits : (threads : List Thread) (t : ℕ) (after : Thread) (w : Wait) → after.waits ≡ Some w → (u q : ℕ) → (w.reference == q) ≡ false → waits_for q (slice_get threads u) ≡ false → waits_for q (slice_get (slice_set threads t after) u) ≡ false
put_waits [] t after w is u q other not_yet = not_yet
put_waits (v ∷ vs) zero after w is zero q other not_yet = ap (is_wait_for q) is ∙ other
put_waits (v ∷ vs) zero after w is (suc u) q other not_yet = not_yet
put_waits (v ∷ vs) (suc t) after w is zero q other not_yet = not_yet
put_waits (v ∷ vs) (suc t) after w is (suc u) q other not_yet = put_waits vs t after w is u q other not_yet

-- If a thread no longer waits, no thread waits for more than before.
pub woken_waits : (threads : List Thread) (t : ℕ) (after : Thread) → after.waits ≡ None → (u q : ℕ) → waits_for q (slice_get threads u) ≡ false → waits_for q (slice_get (slice_set threads t after) u) ≡ false
woken_waits [] t after is u q not_yet = not_yet
woken_waits (v ∷ vs) zero after is zero q not_yet = ap (is_wait_for q) is
woken_waits (v ∷ vs) zero after is (suc u) q not_yet = not_yet
woken_waits (v ∷ vs) (suc t) after is zero q not_yet = not_yet
woken_waits (v ∷ vs) (suc t) after is (suc u) q not_yet = woken_waits vs t after is u q not_yet

-- ---- The owners of monitors

behind_is_other : (r : ℕ) (monitors : List (ℕ × Hold)) → AllByRecursion (λ (n : ℕ × Hold). r < n.0) monitors → AllByRecursion (λ (n : ℕ × Hold). (r == n.0) ≡ false) monitors
behind_is_other r monitors behind = all_weaker (λ (n : ℕ × Hold). r < n.0) (λ (n : ℕ × Hold). (r == n.0) ≡ false) (λ n is. ne_eqb r n.0 (λ same. absurd (omega arith))) monitors behind

-- The remaining monitors are of other objects.
freed_is_other : (heap : List Object) (threads : List Thread) (r : ℕ) (monitors : List (ℕ × Hold)) → AreMonitors heap threads monitors → AllByRecursion (λ (n : ℕ × Hold). (r == n.0) ≡ false) (freed_monitor r monitors)
freed_is_other heap threads r [] are = tt
freed_is_other heap threads r (m ∷ monitors) are =
    cond_both (m.0 == r) _ _ (AllByRecursion (λ (n : ℕ × Hold). (r == n.0) ≡ false))
    (λ same. behind_is_other r monitors (subst (λ q. AllByRecursion (λ (n : ℕ × Hold). q < n.0) monitors) (eqb-true m.0 r same) are.2))
    (λ other. (ne_eqb r m.0 (λ e. eqb-false m.0 r other (sym e)), freed_is_other heap threads r monitors are.3))

-- When a thread has freed a monitor and waits for its object, no owner of another monitor waits for the object of its
-- own.
pub freed_awake : (heap : List Object) (threads : List Thread) (t : ℕ) (after : Thread) (w : Wait) (monitors : List (ℕ × Hold)) → after.waits ≡ Some w → AreMonitors heap threads monitors → AreMonitors heap threads (freed_monitor w.reference monitors) → AreAwake (slice_set threads t after) (freed_monitor w.reference monitors)
freed_awake heap threads t after w monitors is are freed =
    all_both (λ (n : ℕ × Hold). (w.reference == n.0) ≡ false) (λ n. waits_for n.0 (slice_get threads n.1.owner) ≡ false) (λ n. waits_for n.0 (slice_get (slice_set threads t after) n.1.owner) ≡ false)
    (λ n other not_yet. put_waits threads t after w is n.1.owner n.0 other not_yet)
    (freed_monitor w.reference monitors) (freed_is_other heap threads w.reference monitors are) (owners_awake heap threads threads (λ u q no. no) (freed_monitor w.reference monitors) freed)

-- ---- Waiters

-- None of the waiters is this thread.
abbrev pub AreOthers : ℕ → List (ℕ × ℕ) → Type 0
AreOthers t waiters = AllByRecursion (λ v. (v.1 == t) ≡ false) waiters

-- A thread that doesn't wait is no waiter.
pub awake_is_other : (threads : List Thread) (t : ℕ) (thread : Thread) → slice_get threads t ≡ Some thread → thread.waits ≡ None → (waiters : List (ℕ × ℕ)) → AreWaiters threads waiters → AreOthers t waiters
awake_is_other threads t thread at awake [] are = tt
awake_is_other threads t thread at awake (w ∷ waiters) are = (
  ⊎_elim
      (λ (same : (w.1 == t) ≡ true). absurd (false≢true (sym (awake_waits_not threads t w.0 thread at awake) ∙ sym (ap (λ u. waits_for w.0 (slice_get threads u)) (eqb-true w.1 t same)) ∙ are.0)))
      (λ (other : (w.1 == t) ≡ false). other)
      (cases_Bool (w.1 == t)),
  awake_is_other threads t thread at awake waiters are.2,
)

none_is_waiter : (t : ℕ) (b : Bool) (w : ℕ × ℕ) (waiters : List (ℕ × ℕ)) → (w.1 == t) ≡ b → (is_waiter t waiters ≡ false → AreOthers t waiters) → (b || is_waiter t waiters) ≡ false → AreOthers t (w ∷ waiters)
none_is_waiter t true w waiters e rest none = absurd (false≢true (sym none))
none_is_waiter t false w waiters e rest none = (e, rest none)

-- A thread that isn't listed is no waiter.
pub notified_is_other : (t : ℕ) (waiters : List (ℕ × ℕ)) → is_waiter t waiters ≡ false → AreOthers t waiters
notified_is_other t [] none = tt
notified_is_other t (w ∷ waiters) none = none_is_waiter t (w.1 == t) w waiters refl (notified_is_other t waiters) none

-- The waiters stay valid when another thread has changed.
pub others_wait : (threads : List Thread) (t : ℕ) (after : Thread) (waiters : List (ℕ × ℕ)) → AreOthers t waiters → AreWaiters threads waiters → AreWaiters (slice_set threads t after) waiters
others_wait threads t after [] others are = tt
others_wait threads t after (w ∷ waiters) others are =
    (ap (waits_for w.0) (get_set_other threads t w.1 after (eqb-false w.1 t others.0)) ∙ are.0, are.1, others_wait threads t after waiters others.1 are.2)

-- A waiting thread that isn't listed is appended to the waiters.
pub one_more_waits : (threads : List Thread) (r t : ℕ) (waiters : List (ℕ × ℕ)) → waits_for r (slice_get threads t) ≡ true → AreOthers t waiters → AreWaiters threads waiters → AreWaiters threads (waiters ++ (r, t) ∷ [])
one_more_waits threads r t [] waits others are = (waits, tt, tt)
one_more_waits threads r t (w ∷ waiters) waits others are = (
  are.0,
  all_append (λ (v : ℕ × ℕ). (v.1 == w.1) ≡ false) waiters ((r, t) ∷ []) are.1 (ne_eqb t w.1 (λ same. eqb-false w.1 t others.0 (sym same)), tt),
  one_more_waits threads r t waiters waits others.1 are.2,
)

-- ---- Notified waiters

all_kept : (P : ℕ × ℕ → Type 0) (test : ℕ × ℕ → Bool) (waiters : List (ℕ × ℕ)) → AllByRecursion P waiters → AllByRecursion P (filter test waiters)
all_kept P test [] all = tt
all_kept P test (w ∷ waiters) all =
    cond_both (test w) _ _ (AllByRecursion P) (λ _. (all.0, all_kept P test waiters all.1)) (λ _. all_kept P test waiters all.1)

kept_wait : (threads : List Thread) (test : ℕ × ℕ → Bool) (waiters : List (ℕ × ℕ)) → AreWaiters threads waiters → AreWaiters threads (filter test waiters)
kept_wait threads test [] are = tt
kept_wait threads test (w ∷ waiters) are =
    cond_both (test w) _ _ (AreWaiters threads)
    (λ _. (are.0, all_kept (λ v. (v.1 == w.1) ≡ false) test waiters are.1, kept_wait threads test waiters are.2))
    (λ _. kept_wait threads test waiters are.2)

all_left : (P : ℕ × ℕ → Type 0) (r : ℕ) (waiters : List (ℕ × ℕ)) → AllByRecursion P waiters → AllByRecursion P (remove_entry (λ q. q == r) waiters)
all_left P r [] all = tt
all_left P r (w ∷ waiters) all = cond_both (w.0 == r) _ _ (AllByRecursion P) (λ _. all.1) (λ _. (all.0, all_left P r waiters all.1))

left_wait : (threads : List Thread) (r : ℕ) (waiters : List (ℕ × ℕ)) → AreWaiters threads waiters → AreWaiters threads (remove_entry (λ q. q == r) waiters)
left_wait threads r [] are = tt
left_wait threads r (w ∷ waiters) are =
    cond_both (w.0 == r) _ _ (AreWaiters threads)
    (λ _. are.2)
    (λ _. (are.0, all_left (λ v. (v.1 == w.1) ≡ false) r waiters are.1, left_wait threads r waiters are.2))

-- The waiters that aren't notified still wait.
pub unnotified_wait : (threads : List Thread) (r : ℕ) (all : Bool) (waiters : List (ℕ × ℕ)) → AreWaiters threads waiters → AreWaiters threads (without_notified r all waiters)
unnotified_wait threads r true waiters are = kept_wait threads (λ w. not (w.0 == r)) waiters are
unnotified_wait threads r false waiters are = left_wait threads r waiters are
