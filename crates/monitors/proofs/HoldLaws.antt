-- The entries of the tree of holds equal the list that the definitions give.
use Rattle.std.proofs.Common.{◌≡◌, ℕ, Bool, true, false, cond, List, [], ◌∷◌, Some, None, refl, sym, ap, ◌∙◌, arith, nat_lt, ◌==◌, Less, Equal, Greater}
use Rattle.std.specs.Prelude.{Option, IsSome, if◌then◌else◌, ◌+◌, ◌-◌}
use Rattle.std.specs.Map.{lookup, remove_entry, set_value, keys_of}
use Rattle.std.specs.BTreeMap.{insert_entry, is_at}
use Rattle.std.specs.List.Sorted.{IsStrictlySortedBy}
use Rattle.std.specs.Ordering.{nat_cmp, match_ordering}
use Rattle.std.proofs.lemmas.Map.{lookup-none}
use Rattle.std.proofs.lemmas.Map.Entries.{none_below_head}
use Rattle.std.proofs.lemmas.Map.Keys.{sorted_tail}
use Rattle.std.proofs.lemmas.Map.Steps.{set_value_same}
use Rattle.std.proofs.lemmas.Cmp.{nat_cmp_total}
use Rattle.std.proofs.lemmas.Bool.Decides.{nat_tests}
use Rattle.jvms_machine.specs.declared.state.Hold.{Hold}
use Rattle.jvms_machine.specs.Monitors.{with_hold, entered_monitor, left_monitor}
use Rattle.jvms_machine.specs.declared.state.Wait.{Wait}
use Rattle.jvms_machine.specs.State.{monitor_at}
use Rattle.jvms_machine.specs.Waiting.{retaken_monitor}

abbrev pub Holds : Type 0
Holds = List (ℕ × Hold)

-- The lookup in the tree and the lookup in the list compare the same two references.
at_is : (r q : ℕ) → is_at (nat_cmp r) q ≡ (q == r)
at_is r q = grind (arith, nat_tests)

at_here : (r q : ℕ) → is_at (nat_cmp r) q ≡ (r == q)
at_here r q = grind (arith, nat_tests)

pub looked_up : (r : ℕ) (holds : Holds) → lookup (is_at (nat_cmp r)) holds ≡ monitor_at holds r
looked_up r [] = refl
looked_up r (e ∷ holds) = rw (at_is r e.0, looked_up r holds) refl

pub removed : (r : ℕ) (holds : Holds) → remove_entry (is_at (nat_cmp r)) holds ≡ remove_entry (λ q. q == r) holds
removed r [] = refl
removed r (e ∷ holds) = rw (at_is r e.0, removed r holds) refl

-- ---- Insertion of a new entry

same_place : (r k : ℕ) → (r == k) ≡ true → r ≡ k
same_place r k same = grind (arith, nat_tests)

not_both : (r k : ℕ) → nat_lt r k ≡ true → (r == k) ≡ true → ⊥
not_both r k less same = grind (arith, nat_tests)

placed : (r : ℕ) (h : Hold) (e : ℕ × Hold) (holds : Holds) (less same : Bool) → nat_lt r e.0 ≡ less → (r == e.0) ≡ same
    → match_ordering (cond less Less (cond same Equal Greater)) ((r, h) ∷ e ∷ holds) ((e.0, h) ∷ holds) (e ∷ with_hold r h holds)
    ≡ (if same then (r, h) ∷ holds else (if less then (r, h) ∷ e ∷ holds else e ∷ with_hold r h holds))
placed r h e holds true true less same = absurd (not_both r e.0 less same)
placed r h e holds true false less same = refl
placed r h e holds false true less same = ap (λ (k : ℕ). (k, h) ∷ holds) (sym (same_place r e.0 same))
placed r h e holds false false less same = refl

pub inserted : (r : ℕ) (h : Hold) (holds : Holds) → insert_entry nat_cmp holds r h ≡ with_hold r h holds
inserted r h [] = refl
inserted r h (e ∷ holds) = rw (inserted r h holds) (placed r h e holds (nat_lt r e.0) (r == e.0) refl refl)

-- ---- Replacement of an entry

not_above : (r k : ℕ) → nat_lt r k ≡ true → nat_cmp r k ≡ Less
not_above r k less = rw less refl

none_is_some : (h : Hold) (o : Option Hold) → o ≡ None → o ≡ Some h → ⊥
none_is_some h o none some = cc

written_at : (r : ℕ) (v h : Hold) (e : ℕ × Hold) (holds : Holds) (less same : Bool) → nat_lt r e.0 ≡ less → (r == e.0) ≡ same
    → IsStrictlySortedBy nat_cmp (keys_of (e ∷ holds)) → lookup (is_at (nat_cmp r)) (e ∷ holds) ≡ Some v
    → (lookup (is_at (nat_cmp r)) holds ≡ Some v → set_value (is_at (nat_cmp r)) holds h ≡ with_hold r h holds)
    → set_value (is_at (nat_cmp r)) (e ∷ holds) h ≡ with_hold r h (e ∷ holds)
written_at r v h e holds true same less tied ordered found more =
    absurd (none_is_some v (lookup (is_at (nat_cmp r)) (e ∷ holds))
    (lookup-none (is_at (nat_cmp r)) (e ∷ holds) (none_below_head nat_cmp_total r e holds ordered (not_above r e.0 less))) found)
written_at r v h e holds false true less tied ordered found more =
    rw (at_here r e.0, tied) (ap (λ (k : ℕ). (k, h) ∷ holds) (sym (same_place r e.0 tied)))
written_at r v h e holds false false less tied ordered found more =
    let apart : is_at (nat_cmp r) e.0 ≡ false = at_here r e.0 ∙ tied in
    let below : lookup (is_at (nat_cmp r)) holds ≡ Some v = rw apart at found in
    rw (apart, tied, less) (ap (λ (l : Holds). e ∷ l) (more below))

pub written : (r : ℕ) (v h : Hold) (holds : Holds) → IsStrictlySortedBy nat_cmp (keys_of holds) → lookup (is_at (nat_cmp r)) holds ≡ Some v
    → set_value (is_at (nat_cmp r)) holds h ≡ with_hold r h holds
written r v h [] ordered found = absurd (none_is_some v None refl found)
written r v h (e ∷ holds) ordered found =
    written_at r v h e holds (nat_lt r e.0) (r == e.0) refl refl ordered found (written r v h holds (sorted_tail nat_cmp e.0 (keys_of holds) ordered))

-- ---- Monitors that are entered and left

pub enters_first : (thread r : ℕ) (old new : Holds) (h : Hold) → monitor_at old r ≡ None → h ≡ record { owner = thread; count = 1 }
    → new ≡ insert_entry nat_cmp old r h → new ≡ entered_monitor thread r old
enters_first thread r old new h free is put = rw (put, inserted r h old, free, is) refl

pub enters_again : (thread r : ℕ) (old new : Holds) (held h : Hold) → monitor_at old r ≡ Some held → h ≡ record { owner = held.owner; count = held.count + 1 }
    → new ≡ insert_entry nat_cmp old r h → new ≡ entered_monitor thread r old
enters_again thread r old new held h found is put = rw (put, inserted r h old, found, is) refl

pub retakes : (thread : ℕ) (wait : Wait) (old new : Holds) → new ≡ insert_entry nat_cmp old wait.reference (record { owner = thread; count = wait.count })
    → new ≡ retaken_monitor thread wait old
retakes thread wait old new put = put ∙ inserted wait.reference (record { owner = thread; count = wait.count }) old

-- If the tree has no entry for an object, its monitor isn't held.
pub not_held : (r : ℕ) (holds : Holds) → lookup (is_at (nat_cmp r)) holds ≡ None → IsSome (monitor_at holds r) → ⊥
not_held r holds absent = rw (← looked_up r holds, absent) (λ (held : false ≡ true). cc)

is_one : (count : ℕ) → count ≡ 1 → (count == 1) ≡ true
is_one count one = rw one refl

is_more : (count : ℕ) → (count ≡ 1 → ⊥) → (count == 1) ≡ false
is_more count more = grind (arith, nat_tests)

pub leaves_at_last : (r : ℕ) (old lent new : Holds) (h : Hold) → Some h ≡ lookup (is_at (nat_cmp r)) old → lent ≡ set_value (is_at (nat_cmp r)) old h
    → new ≡ remove_entry (is_at (nat_cmp r)) lent → h.count ≡ 1 → new ≡ left_monitor r old
leaves_at_last r old lent new h found lends takes one =
    let held : monitor_at old r ≡ Some h = sym (looked_up r old) ∙ sym found in
    rw (takes, lends, set_value_same (is_at (nat_cmp r)) old h (sym found), removed r old, held, is_one h.count one) refl

pub leaves_once : (r : ℕ) (old new : Holds) (h : Hold) (count : ℕ) → IsStrictlySortedBy nat_cmp (keys_of old) → Some h ≡ lookup (is_at (nat_cmp r)) old
    → new ≡ set_value (is_at (nat_cmp r)) old (record { owner = h.owner; count = count }) → count ≡ h.count - 1 → (h.count ≡ 1 → ⊥) → new ≡ left_monitor r old
leaves_once r old new h count ordered found writes less more =
    let held : monitor_at old r ≡ Some h = sym (looked_up r old) ∙ sym found in
    rw (writes, written r h (record { owner = h.owner; count = count }) old ordered (sym found), less, held, is_more h.count more) refl
