-- The monitors that become held, and those that become free, when one is entered or left.
use Rattle.std.proofs.Common.{◌≡◌, ℕ, ◌+◌, ◌-◌, ◌<◌, ◌==◌, Bool, true, false, cond, nat_lt, eq-eqb, List, [], ◌∷◌, map, Option, Some, None, is_none, refl, sym, ap, ◌∙◌, subst, ⊎_elim, arith, ne_eqb}
use Rattle.std.specs.List.{AllByRecursion, filter}
use Rattle.std.specs.Map.{remove_entry}
use Rattle.std.proofs.lemmas.Bool.{cond_both, cond-true, cond-false, eqb-true, eqb-false, false≢true, cases_Bool}
use Rattle.jvms_machine.specs.declared.state.Hold.{Hold}
use Rattle.jvms_machine.specs.State.{Object, Thread, monitor_at, AreMonitors}
use Rattle.jvms_machine.specs.Monitors.{with_hold, entered_monitor, left_monitor}
use Rattle.jvms_machine.specs.declared.state.Wait.{Wait}
use Rattle.jvms_machine.specs.Waiting.{freed_monitor, retaken_monitor}
use Rattle.jvms_machine.specs.Events.{newly_held}
use Rattle.jvms_machine.proofs.ListLaws.{all_weaker}

-- ---- Lists

filter_none : {X : Type 0} (p : X → Bool) (xs : List X) → AllByRecursion (λ x. p x ≡ false) xs → filter p xs ≡ []
filter_none p [] all = refl
filter_none p (x ∷ xs) all = cond-false (p x) (x ∷ filter p xs) (filter p xs) all.0 ∙ filter_none p xs all.1

abbrev references : List (ℕ × Hold) → List ℕ
references monitors = map (λ m. m.0) monitors

-- ---- Held monitors

abbrev IsHeldIn : List (ℕ × Hold) → ℕ → Type 0
IsHeldIn monitors r = is_none (monitor_at monitors r) ≡ false

held_first : (r : ℕ) (h : Hold) (monitors : List (ℕ × Hold)) → IsHeldIn ((r, h) ∷ monitors) r
held_first r h monitors = ap is_none (cond-true (r == r) (Some h) (monitor_at monitors r) (eq-eqb r r refl))

held_behind : (m : ℕ × Hold) (monitors : List (ℕ × Hold)) (k : ℕ) → IsHeldIn monitors k → IsHeldIn (m ∷ monitors) k
held_behind m monitors k is = cond_both (m.0 == k) _ _ (λ (o : Option Hold). is_none o ≡ false) (λ _. refl) (λ _. is)

-- A monitor that is held, and isn't the first, is held in the rest of the list.
held_rest : (m : ℕ × Hold) (monitors : List (ℕ × Hold)) (k : ℕ) → (m.0 == k) ≡ false → IsHeldIn (m ∷ monitors) k → IsHeldIn monitors k
held_rest m monitors k other is = sym (ap is_none (cond-false (m.0 == k) (Some m.1) (monitor_at monitors k) other)) ∙ is

own_held : (monitors : List (ℕ × Hold)) → AllByRecursion (IsHeldIn monitors) (references monitors)
own_held [] = tt
own_held (m ∷ monitors) =
    (held_first m.0 m.1 monitors, all_weaker (IsHeldIn monitors) (IsHeldIn (m ∷ monitors)) (held_behind m monitors) (references monitors) (own_held monitors))

-- ---- A hold that is added or changed

held_new : (r : ℕ) (h : Hold) (monitors : List (ℕ × Hold)) → IsHeldIn (with_hold r h monitors) r
held_new r h [] = held_first r h []
held_new r h (m ∷ monitors) =
    cond_both (r == m.0) _ _ (λ (ms : List (ℕ × Hold)). IsHeldIn ms r)
    (λ _. held_first r h monitors)
    (λ _. cond_both (nat_lt r m.0) _ _ (λ (ms : List (ℕ × Hold)). IsHeldIn ms r)
    (λ _. held_first r h (m ∷ monitors))
    (λ _. held_behind m (with_hold r h monitors) r (held_new r h monitors)))

-- The other monitors stay held.
held_with : (r : ℕ) (h : Hold) (monitors : List (ℕ × Hold)) (k : ℕ) → IsHeldIn monitors k → IsHeldIn (with_hold r h monitors) k
held_with r h [] k is = absurd (false≢true (sym is))
held_with r h (m ∷ monitors) k is =
    cond_both (r == m.0) _ _ (λ (ms : List (ℕ × Hold)). IsHeldIn ms k)
    (λ same. cond_both (r == k) _ _ (λ (o : Option Hold). is_none o ≡ false)
    (λ _. refl)
    (λ other. held_rest m monitors k (ap (λ q. q == k) (sym (eqb-true r m.0 same)) ∙ other) is))
    (λ _. cond_both (nat_lt r m.0) _ _ (λ (ms : List (ℕ × Hold)). IsHeldIn ms k)
    (λ _. held_behind (r, h) (m ∷ monitors) k is)
    (λ _. cond_both (m.0 == k) _ _ (λ (o : Option Hold). is_none o ≡ false)
    (λ _. refl)
    (λ other. held_with r h monitors k (held_rest m monitors k other is))))

with_references : (P : ℕ → Type 0) (r : ℕ) (h : Hold) (monitors : List (ℕ × Hold)) → P r → AllByRecursion P (references monitors) → AllByRecursion P (references (with_hold r h monitors))
with_references P r h [] is all = (is, tt)
with_references P r h (m ∷ monitors) is all =
    cond_both (r == m.0) _ _ (λ (ms : List (ℕ × Hold)). AllByRecursion P (references ms))
    (λ _. (is, all.1))
    (λ _. cond_both (nat_lt r m.0) _ _ (λ (ms : List (ℕ × Hold)). AllByRecursion P (references ms))
    (λ _. (is, all))
    (λ _. (all.0, with_references P r h monitors is all.1)))

-- A monitor that was free is the only new one.
one_new : (before : List (ℕ × Hold)) (r : ℕ) (h : Hold) (monitors : List (ℕ × Hold)) → is_none (monitor_at before r) ≡ true → AllByRecursion (IsHeldIn before) (references monitors) → newly_held before (with_hold r h monitors) ≡ r ∷ []
one_new before r h [] free all = cond-true (is_none (monitor_at before r)) (r ∷ []) [] free
one_new before r h (m ∷ monitors) free all =
    let test = λ (k : ℕ). is_none (monitor_at before k) in
    cond_both (r == m.0) _ _ (λ (ms : List (ℕ × Hold)). newly_held before ms ≡ r ∷ [])
    (λ same. absurd (false≢true (sym all.0 ∙ ap test (sym (eqb-true r m.0 same)) ∙ free)))
    (λ _. cond_both (nat_lt r m.0) _ _ (λ (ms : List (ℕ × Hold)). newly_held before ms ≡ r ∷ [])
    (λ _. cond-true (test r) (r ∷ filter test (references (m ∷ monitors))) (filter test (references (m ∷ monitors))) free
    ∙ ap (λ (rs : List ℕ). r ∷ rs) (filter_none test (references (m ∷ monitors)) all))
    (λ _. cond-false (test m.0) (m.0 ∷ filter test (references (with_hold r h monitors))) (filter test (references (with_hold r h monitors))) all.0
    ∙ one_new before r h monitors free all.1))

none_new : (before after : List (ℕ × Hold)) → AllByRecursion (IsHeldIn before) (references after) → newly_held before after ≡ []
none_new before after all = filter_none (λ k. is_none (monitor_at before k)) (references after) all

pub none_new_in_same : (monitors : List (ℕ × Hold)) → newly_held monitors monitors ≡ []
none_new_in_same monitors = none_new monitors monitors (own_held monitors)

none_old_with : (r : ℕ) (h : Hold) (monitors : List (ℕ × Hold)) → newly_held (with_hold r h monitors) monitors ≡ []
none_old_with r h monitors =
    none_new (with_hold r h monitors) monitors (all_weaker (IsHeldIn monitors) (IsHeldIn (with_hold r h monitors)) (held_with r h monitors) (references monitors) (own_held monitors))

none_new_with : (r : ℕ) (h : Hold) (monitors : List (ℕ × Hold)) → IsHeldIn monitors r → newly_held monitors (with_hold r h monitors) ≡ []
none_new_with r h monitors held = none_new monitors (with_hold r h monitors) (with_references (IsHeldIn monitors) r h monitors held (own_held monitors))

-- ---- A hold that is removed

removed_references : (P : ℕ → Type 0) (r : ℕ) (monitors : List (ℕ × Hold)) → AllByRecursion P (references monitors) → AllByRecursion P (references (remove_entry (λ q. q == r) monitors))
removed_references P r [] all = tt
removed_references P r (m ∷ monitors) all =
    cond_both (m.0 == r) _ _ (λ (ms : List (ℕ × Hold)). AllByRecursion P (references ms)) (λ _. all.1) (λ _. (all.0, removed_references P r monitors all.1))

other_held : (r : ℕ) (monitors : List (ℕ × Hold)) (k : ℕ) → (r == k) ≡ false → IsHeldIn monitors k → IsHeldIn (remove_entry (λ q. q == r) monitors) k
other_held r [] k other is = is
other_held r (m ∷ monitors) k other is =
    cond_both (m.0 == r) _ _ (λ (ms : List (ℕ × Hold)). IsHeldIn ms k)
    (λ same. held_rest m monitors k (ap (λ q. q == k) (eqb-true m.0 r same) ∙ other) is)
    (λ _. cond_both (m.0 == k) _ _ (λ (o : Option Hold). is_none o ≡ false)
    (λ _. refl)
    (λ apart. other_held r monitors k other (held_rest m monitors k apart is)))

behind_is_free : (r : ℕ) (monitors : List (ℕ × Hold)) → AllByRecursion (λ (n : ℕ × Hold). r < n.0) monitors → is_none (monitor_at monitors r) ≡ true
behind_is_free r [] behind = refl
behind_is_free r (m ∷ monitors) behind =
    cond_both (m.0 == r) _ _ (λ (o : Option Hold). is_none o ≡ true)
    (λ same. let is = eqb-true m.0 r same in let more = behind.0 in absurd (omega arith))
    (λ _. behind_is_free r monitors behind.1)

module _ (heap : List Object) (threads : List Thread) where
  removed_is_free : (r : ℕ) (monitors : List (ℕ × Hold)) → AreMonitors heap threads monitors → is_none (monitor_at (remove_entry (λ q. q == r) monitors) r) ≡ true
  removed_is_free r [] are = refl
  removed_is_free r (m ∷ monitors) are =
      cond_both (m.0 == r) _ _ (λ (ms : List (ℕ × Hold)). is_none (monitor_at ms r) ≡ true)
      (λ same. behind_is_free r monitors (subst (λ q. AllByRecursion (λ (n : ℕ × Hold). q < n.0) monitors) (eqb-true m.0 r same) are.2))
      (λ other. ap is_none (cond-false (m.0 == r) (Some m.1) (monitor_at (remove_entry (λ q. q == r) monitors) r) other) ∙ removed_is_free r monitors are.3)

  -- A test that may pass for one reference only fails for the references after it.
  apart_from : (test : ℕ → Bool) (r : ℕ) (monitors : List (ℕ × Hold)) → AllByRecursion (λ (n : ℕ × Hold). r < n.0) monitors → AllByRecursion (λ k. (r == k) ≡ false → test k ≡ false) (references monitors) → AllByRecursion (λ k. test k ≡ false) (references monitors)
  apart_from test r [] behind all = tt
  apart_from test r (m ∷ monitors) behind all =
      let more = behind.0 in
      (all.0 (ne_eqb r m.0 (λ same. absurd (omega arith))), apart_from test r monitors behind.1 all.1)

  only_one : (test : ℕ → Bool) (r : ℕ) (monitors : List (ℕ × Hold)) → AreMonitors heap threads monitors → test r ≡ true → AllByRecursion (λ k. (r == k) ≡ false → test k ≡ false) (references monitors) → IsHeldIn monitors r → filter test (references monitors) ≡ r ∷ []
  only_one test r [] are free all held = absurd (false≢true (sym held))
  only_one test r (m ∷ monitors) are free all held =
      let rest = filter test (references monitors) in
      ⊎_elim
      (λ (same : (m.0 == r) ≡ true).
      let is = eqb-true m.0 r same in
      let behind = subst (λ q. AllByRecursion (λ (n : ℕ × Hold). q < n.0) monitors) is are.2 in
      cond-true (test m.0) (m.0 ∷ rest) rest (ap test is ∙ free) ∙ ap (λ q. q ∷ rest) is ∙ ap (λ (rs : List ℕ). r ∷ rs) (filter_none test (references monitors) (apart_from test r monitors behind all.1)))
      (λ (other : (m.0 == r) ≡ false).
      cond-false (test m.0) (m.0 ∷ rest) rest (all.0 (ne_eqb r m.0 (λ e. eqb-false m.0 r other (sym e)))) ∙ only_one test r monitors are.3 free all.1 (held_rest m monitors r other held))
      (cases_Bool (m.0 == r))

  one_old : (r : ℕ) (monitors : List (ℕ × Hold)) → AreMonitors heap threads monitors → IsHeldIn monitors r → newly_held (remove_entry (λ q. q == r) monitors) monitors ≡ r ∷ []
  one_old r monitors are held =
      let after = remove_entry (λ q. q == r) monitors in
      only_one (λ k. is_none (monitor_at after k)) r monitors are (removed_is_free r monitors are)
      (all_weaker (IsHeldIn monitors) (λ k. (r == k) ≡ false → IsHeldIn after k) (λ k is other. other_held r monitors k other is) (references monitors) (own_held monitors)) held

-- ---- Entering and leaving

-- If it was free, the entered monitor becomes held, and no other does.
pub entered_new : (t r : ℕ) (o : Option Hold) (monitors : List (ℕ × Hold)) → monitor_at monitors r ≡ o → newly_held monitors (entered_monitor t r monitors) ≡ cond (is_none o) (r ∷ []) []
entered_new t r None monitors e = rw e (one_new monitors r (record { owner = t; count = 1 }) monitors (ap is_none e) (own_held monitors))
entered_new t r (Some h) monitors e = rw e (none_new_with r (record { owner = h.owner; count = h.count + 1 }) monitors (ap is_none e))

pub entered_old : (t r : ℕ) (monitors : List (ℕ × Hold)) → newly_held (entered_monitor t r monitors) monitors ≡ []
entered_old t r monitors = none_old_with r _ monitors

pub left_new : (r : ℕ) (h : Hold) (monitors : List (ℕ × Hold)) → monitor_at monitors r ≡ Some h → newly_held monitors (left_monitor r monitors) ≡ []
left_new r h monitors e =
    rw e (cond_both (h.count == 1) _ _ (λ (ms : List (ℕ × Hold)). newly_held monitors ms ≡ [])
    (λ _. none_new monitors (remove_entry (λ q. q == r) monitors) (removed_references (IsHeldIn monitors) r monitors (own_held monitors)))
    (λ _. none_new_with r (record { owner = h.owner; count = h.count - 1 }) monitors (ap is_none e)))

-- A held monitor that is freed becomes free, and no other does.
pub freed_new : (r : ℕ) (monitors : List (ℕ × Hold)) → newly_held monitors (freed_monitor r monitors) ≡ []
freed_new r monitors = none_new monitors (freed_monitor r monitors) (removed_references (IsHeldIn monitors) r monitors (own_held monitors))

pub freed_old : (heap : List Object) (threads : List Thread) (r : ℕ) (h : Hold) (monitors : List (ℕ × Hold)) → AreMonitors heap threads monitors → monitor_at monitors r ≡ Some h → newly_held (freed_monitor r monitors) monitors ≡ r ∷ []
freed_old heap threads r h monitors are e = one_old heap threads r monitors are (ap is_none e)

-- A free monitor that is retaken becomes held, and no other does.
pub retaken_new : (t : ℕ) (w : Wait) (monitors : List (ℕ × Hold)) → monitor_at monitors w.reference ≡ None → newly_held monitors (retaken_monitor t w monitors) ≡ w.reference ∷ []
retaken_new t w monitors e = one_new monitors w.reference (record { owner = t; count = w.count }) monitors (ap is_none e) (own_held monitors)

pub retaken_old : (t : ℕ) (w : Wait) (monitors : List (ℕ × Hold)) → newly_held (retaken_monitor t w monitors) monitors ≡ []
retaken_old t w monitors = none_old_with w.reference _ monitors

-- Both cases of a test.
either : {X Y : Type 0} (f : X → Y) (b : Bool) (x y : X) (p q : Y) → f x ≡ p → f y ≡ q → f (cond b x y) ≡ cond b p q
either f true x y p q first second = first
either f false x y p q first second = second

-- If it was entered once, the left monitor becomes free, and no other does.
pub left_old : (heap : List Object) (threads : List Thread) (r : ℕ) (h : Hold) (monitors : List (ℕ × Hold)) → AreMonitors heap threads monitors → monitor_at monitors r ≡ Some h → newly_held (left_monitor r monitors) monitors ≡ cond (h.count == 1) (r ∷ []) []
left_old heap threads r h monitors are e =
    rw e (either (λ (ms : List (ℕ × Hold)). newly_held ms monitors) (h.count == 1) (remove_entry (λ q. q == r) monitors) (with_hold r (record { owner = h.owner; count = h.count - 1 }) monitors) (r ∷ []) []
    (one_old heap threads r monitors are (ap is_none e))
    (none_old_with r (record { owner = h.owner; count = h.count - 1 }) monitors))
