-- The held monitors stay in the order of their references, of existing objects and of started threads, when they are
-- entered and left.
use Rattle.std.proofs.Common.{◌≡◌, ℕ, ◌+◌, ◌-◌, ◌^◌, ◌<◌, ◌==◌, false, nat_lt, List, [], ◌∷◌, length, Option, Some, None, IfSome, slice_get, refl, sym, subst, arith}
use Rattle.std.specs.List.{AllByRecursion}
use Rattle.std.specs.Map.{remove_entry}
use Rattle.std.proofs.lemmas.Bool.{cond_both, eqb-true, eqb-false, ltb-true, ltb-false}
use Rattle.jvms_machine.specs.declared.state.Hold.{Hold}
use Rattle.jvms_machine.specs.State.{Object, Thread, monitor_at, waits_for, IsReference, IsHold, AreMonitors}
use Rattle.jvms_machine.specs.Monitors.{with_hold, entered_monitor, left_monitor}
use Rattle.jvms_machine.proofs.ListLaws.{all_weaker}

-- ---- The order of the monitors

-- All of these monitors are of objects after this one.
abbrev AreBehind : ℕ → List (ℕ × Hold) → Type 0
AreBehind r monitors = AllByRecursion (λ n. r < n.0) monitors

behind_more : (q r : ℕ) (monitors : List (ℕ × Hold)) → q < r → AreBehind r monitors → AreBehind q monitors
behind_more q r monitors less behind = all_weaker (λ n. r < n.0) (λ n. q < n.0) (λ n is. omega arith) monitors behind

with_hold_behind : (q r : ℕ) (h : Hold) (monitors : List (ℕ × Hold)) → q < r → AreBehind q monitors → AreBehind q (with_hold r h monitors)
with_hold_behind q r h [] less behind = (less, tt)
with_hold_behind q r h (m ∷ monitors) less behind =
    cond_both (r == m.0) _ _ (AreBehind q)
    (λ _. (less, behind.1))
    (λ _. cond_both (nat_lt r m.0) _ _ (AreBehind q) (λ _. (less, behind)) (λ _. (behind.0, with_hold_behind q r h monitors less behind.1)))

removed_behind : (q r : ℕ) (monitors : List (ℕ × Hold)) → AreBehind q monitors → AreBehind q (remove_entry (λ k. k == r) monitors)
removed_behind q r [] behind = tt
removed_behind q r (m ∷ monitors) behind =
    cond_both (m.0 == r) _ _ (AreBehind q) (λ _. behind.1) (λ _. (behind.0, removed_behind q r monitors behind.1))

-- ---- Holds that are added, changed and removed

module _ (heap : List Object) (threads : List Thread) where
  pub with_hold_are : (r : ℕ) (h : Hold) (monitors : List (ℕ × Hold)) → IsReference heap r → IsHold threads r h → AreMonitors heap threads monitors → AreMonitors heap threads (with_hold r h monitors)
  with_hold_are r h [] reference hold are = (reference, hold, tt, tt)
  with_hold_are r h (m ∷ monitors) reference hold are =
      cond_both (r == m.0) _ _ (AreMonitors heap threads)
      (λ same. (reference, hold, subst (λ q. AreBehind q monitors) (sym (eqb-true r m.0 same)) are.2, are.3))
      (λ other. cond_both (nat_lt r m.0) _ _ (AreMonitors heap threads)
      (λ less. let before = ltb-true r m.0 less in (reference, hold, (before, behind_more r m.0 monitors before are.2), are))
      (λ more.
      let apart = eqb-false r m.0 other in
      let at_least = ltb-false r m.0 more in
      (are.0, are.1, with_hold_behind m.0 r h monitors (omega arith) are.2, with_hold_are r h monitors reference hold are.3)))

  pub removed_are : (r : ℕ) (monitors : List (ℕ × Hold)) → AreMonitors heap threads monitors → AreMonitors heap threads (remove_entry (λ k. k == r) monitors)
  removed_are r [] are = tt
  removed_are r (m ∷ monitors) are =
      cond_both (m.0 == r) _ _ (AreMonitors heap threads)
      (λ _. are.3)
      (λ _. (are.0, are.1, removed_behind m.0 r monitors are.2, removed_are r monitors are.3))

  -- A held monitor is of an existing object, and has a valid hold.
  pub held_is : (r : ℕ) (monitors : List (ℕ × Hold)) → AreMonitors heap threads monitors → IfSome (monitor_at monitors r) (λ h. IsReference heap r × IsHold threads r h)
  held_is r [] are = tt
  held_is r (m ∷ monitors) are =
      cond_both (m.0 == r) _ _ (λ o. IfSome o (λ h. IsReference heap r × IsHold threads r h))
      (λ same. let is = eqb-true m.0 r same in (subst (IsReference heap) is are.0, subst (λ q. IsHold threads q m.1) is are.1))
      (λ _. held_is r monitors are.3)

  -- The monitor of a reference after all objects is free.
  pub new_is_free : (r : ℕ) (monitors : List (ℕ × Hold)) → length heap < r → AreMonitors heap threads monitors → monitor_at monitors r ≡ None
  new_is_free r [] behind are = refl
  new_is_free r (m ∷ monitors) behind are =
      cond_both (m.0 == r) _ _ (λ (o : Option Hold). o ≡ None)
      (λ same. let is = eqb-true m.0 r same in let there = are.0.1 in absurd (omega arith))
      (λ _. new_is_free r monitors behind are.3)

  -- ---- Entering and leaving

  entered_by : (t r : ℕ) (o : Option Hold) (monitors : List (ℕ × Hold)) → o ≡ monitor_at monitors r → t < length threads → waits_for r (slice_get threads t) ≡ false → IsReference heap r → IfSome o (λ h. h.count + 1 < 2 ^ 32) → IfSome o (λ h. IsReference heap r × IsHold threads r h) → AreMonitors heap threads monitors → AreMonitors heap threads (entered_monitor t r monitors)
  entered_by t r None monitors e given_out awake reference room held are =
      rw (← e) (with_hold_are r (record { owner = t; count = 1 }) monitors reference (given_out, omega arith, omega arith, awake) are)
  entered_by t r (Some h) monitors e given_out awake reference room held are =
      rw (← e) (with_hold_are r (record { owner = h.owner; count = h.count + 1 }) monitors reference (held.1.0, omega arith, room, held.1.3) are)

  -- A started thread that doesn't wait for the object enters a monitor whose entries can be counted.
  pub entered_are : (t r : ℕ) (monitors : List (ℕ × Hold)) → t < length threads → waits_for r (slice_get threads t) ≡ false → IsReference heap r → IfSome (monitor_at monitors r) (λ h. h.count + 1 < 2 ^ 32) → AreMonitors heap threads monitors → AreMonitors heap threads (entered_monitor t r monitors)
  entered_are t r monitors given_out awake reference room are =
      entered_by t r (monitor_at monitors r) monitors refl given_out awake reference room (held_is r monitors are) are

  left_by : (r : ℕ) (o : Option Hold) (monitors : List (ℕ × Hold)) → o ≡ monitor_at monitors r → IfSome o (λ h. IsReference heap r × IsHold threads r h) → AreMonitors heap threads monitors → AreMonitors heap threads (left_monitor r monitors)
  left_by r None monitors e held are = rw (← e) are
  left_by r (Some h) monitors e held are =
      rw (← e) (cond_both (h.count == 1) _ _ (AreMonitors heap threads)
      (λ _. removed_are r monitors are)
      (λ more.
      let some = held.1.1 in
      let few = held.1.2 in
      let not_one = eqb-false h.count 1 more in
      with_hold_are r (record { owner = h.owner; count = h.count - 1 }) monitors held.0 (held.1.0, omega arith, omega arith, held.1.3) are))

  -- A monitor is left.
  pub left_are : (r : ℕ) (monitors : List (ℕ × Hold)) → AreMonitors heap threads monitors → AreMonitors heap threads (left_monitor r monitors)
  left_are r monitors are = left_by r (monitor_at monitors r) monitors refl (held_is r monitors are) are
