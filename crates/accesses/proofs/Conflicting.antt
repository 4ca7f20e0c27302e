-- Two items conflict if and only if two of their accesses conflict.
use Rattle.std.proofs.Common.{◌≡◌, ℕ, Bool, true, false, ◌==◌, ◌&&◌, ◌||◌, Option, Some, None, ◌⊎◌, ◌↔◌, inl, inr, ⊎_elim, refl, sym, ap, ◌∙◌, true≢false}
use Rattle.std.proofs.lemmas.Bool.{and_from, and_parts}
use Rattle.std.proofs.lemmas.Option.{none-some, same_Some}
use Rattle.jvms_machine.specs.declared.trace.Item.{Item}
use Rattle.jvms_machine.specs.declared.trace.Item.TheVariants as item
use Rattle.jvms_machine.specs.declared.trace.Variable.{Variable}
use Rattle.jvms_machine.specs.Events.{thread_of}
use Rattle.velodrome.specs.Conflicts.{conflict, is_write, monitor_of, on_one_variable, same_number, started_or_joined, variable_of}
use Rattle.velodrome.specs.Cycles.{IsIn}
use Rattle.accesses.specs.Accesses.{Access, OfMonitor, OfThread, OfVariable, Place, accesses_beside, accesses_of, against, beside_at, main_at, same_place}

abbrev access : Place → Bool → Access
access p b = record { place = p; is_main = b }

-- ---- What an item's accesses are

-- An access of an item is of one of four kinds.
data IsOf (i : Item) (x : Access) : Type 0 where
  own : x ≡ main_at (OfThread (thread_of i)) → IsOf i x
  monitor : (r : ℕ) → monitor_of i ≡ Some r → x ≡ main_at (OfMonitor r) → IsOf i x
  on_variable : (v : Variable) → variable_of i ≡ Some v → x ≡ access (OfVariable v) (is_write i) → IsOf i x
  touched : (u : ℕ) → started_or_joined i ≡ Some u → x ≡ beside_at (OfThread u) → IsOf i x

kind_beside : (i : Item) (x : Access) → IsIn x (accesses_beside i) → IsOf i x
kind_beside (item.Read t v) x (inl same) = on_variable v refl same
kind_beside (item.Read t v) x (inr more) = absurd more
kind_beside (item.Write t v) x (inl same) = on_variable v refl same
kind_beside (item.Write t v) x (inr more) = absurd more
kind_beside (item.Acquire t r) x (inl same) = monitor r refl same
kind_beside (item.Acquire t r) x (inr more) = absurd more
kind_beside (item.Release t r) x (inl same) = monitor r refl same
kind_beside (item.Release t r) x (inr more) = absurd more
kind_beside (item.Fork t u) x (inl same) = touched u refl same
kind_beside (item.Fork t u) x (inr more) = absurd more
kind_beside (item.Join t u) x (inl same) = touched u refl same
kind_beside (item.Join t u) x (inr more) = absurd more
kind_beside (item.Enter t m) x is_in = absurd is_in
kind_beside (item.Exit t m) x is_in = absurd is_in

kind : (i : Item) (x : Access) → IsIn x (accesses_of i) → IsOf i x
unfolding accesses_of
kind i x is_in = ⊎_elim (λ same. own same) (λ more. kind_beside i x more) is_in

has_monitor : (i : Item) (r : ℕ) → monitor_of i ≡ Some r → IsIn (main_at (OfMonitor r)) (accesses_beside i)
has_monitor (item.Read t v) r is = absurd (none-some r is)
has_monitor (item.Write t v) r is = absurd (none-some r is)
has_monitor (item.Acquire t q) r is = inl (ap (λ (n : ℕ). main_at (OfMonitor n)) (sym (same_Some q r is)))
has_monitor (item.Release t q) r is = inl (ap (λ (n : ℕ). main_at (OfMonitor n)) (sym (same_Some q r is)))
has_monitor (item.Fork t u) r is = absurd (none-some r is)
has_monitor (item.Join t u) r is = absurd (none-some r is)
has_monitor (item.Enter t m) r is = absurd (none-some r is)
has_monitor (item.Exit t m) r is = absurd (none-some r is)

has_variable : (i : Item) (v : Variable) → variable_of i ≡ Some v → IsIn (access (OfVariable v) (is_write i)) (accesses_beside i)
has_variable (item.Read t w) v is = inl (ap (λ (x : Variable). beside_at (OfVariable x)) (sym (same_Some w v is)))
has_variable (item.Write t w) v is = inl (ap (λ (x : Variable). main_at (OfVariable x)) (sym (same_Some w v is)))
has_variable (item.Acquire t r) v is = absurd (none-some v is)
has_variable (item.Release t r) v is = absurd (none-some v is)
has_variable (item.Fork t u) v is = absurd (none-some v is)
has_variable (item.Join t u) v is = absurd (none-some v is)
has_variable (item.Enter t m) v is = absurd (none-some v is)
has_variable (item.Exit t m) v is = absurd (none-some v is)

has_touched : (i : Item) (u : ℕ) → started_or_joined i ≡ Some u → IsIn (beside_at (OfThread u)) (accesses_beside i)
has_touched (item.Read t v) u is = absurd (none-some u is)
has_touched (item.Write t v) u is = absurd (none-some u is)
has_touched (item.Acquire t r) u is = absurd (none-some u is)
has_touched (item.Release t r) u is = absurd (none-some u is)
has_touched (item.Fork t w) u is = inl (ap (λ (n : ℕ). beside_at (OfThread n)) (sym (same_Some w u is)))
has_touched (item.Join t w) u is = inl (ap (λ (n : ℕ). beside_at (OfThread n)) (sym (same_Some w u is)))
has_touched (item.Enter t m) u is = absurd (none-some u is)
has_touched (item.Exit t m) u is = absurd (none-some u is)

-- ---- From a conflict to accesses

abbrev pub AreAgainst : Item → Item → Type 0
AreAgainst a b = (x : Access) × (y : Access) × IsIn x (accesses_of a) × IsIn y (accesses_of b) × (against x y ≡ true)

in_own : (i : Item) → IsIn (main_at (OfThread (thread_of i))) (accesses_of i)
unfolding accesses_of
in_own i = inl refl

in_beside : (i : Item) (x : Access) → IsIn x (accesses_beside i) → IsIn x (accesses_of i)
unfolding accesses_of
in_beside i x is_in = inr is_in

or_split : (a b : Bool) → (a || b) ≡ true → (a ≡ true) ⊎ (b ≡ true)
or_split true b is = inl refl
or_split false b is = inr is

or_first : (a b : Bool) → a ≡ true → (a || b) ≡ true
or_first a b is = ap (λ (c : Bool). c || b) is

or_second : (a b : Bool) → b ≡ true → (a || b) ≡ true
or_second true b is = refl
or_second false b is = is

on_monitors : (a b : Item) (m n : Option ℕ) → monitor_of a ≡ m → monitor_of b ≡ n → same_number m n ≡ true → AreAgainst a b
on_monitors a b None n am bn same = absurd (true≢false (sym same))
on_monitors a b (Some r) None am bn same = absurd (true≢false (sym same))
on_monitors a b (Some r) (Some q) am bn same =
    (main_at (OfMonitor r), main_at (OfMonitor q), in_beside a _ (has_monitor a r am), in_beside b _ (has_monitor b q bn), and_from (r == q) true same refl)

on_variables : (a b : Item) (v w : Option Variable) → variable_of a ≡ v → variable_of b ≡ w → (on_one_variable v w && (is_write a || is_write b)) ≡ true → AreAgainst a b
on_variables a b None w av bw same = absurd (true≢false (sym same))
on_variables a b (Some v) None av bw same = absurd (true≢false (sym same))
on_variables a b (Some v) (Some w) av bw same =
    (access (OfVariable v) (is_write a), access (OfVariable w) (is_write b), in_beside a _ (has_variable a v av), in_beside b _ (has_variable b w bw), same)

on_touched : (a b : Item) (u : Option ℕ) → started_or_joined a ≡ u → same_number u (Some (thread_of b)) ≡ true → AreAgainst a b
on_touched a b None is same = absurd (true≢false (sym same))
on_touched a b (Some u) is same =
    (beside_at (OfThread u), main_at (OfThread (thread_of b)), in_beside a _ (has_touched a u is), in_own b, and_from (u == thread_of b) true same refl)

on_touching : (a b : Item) (u : Option ℕ) → started_or_joined b ≡ u → same_number (Some (thread_of a)) u ≡ true → AreAgainst a b
on_touching a b None is same = absurd (true≢false (sym same))
on_touching a b (Some u) is same =
    (main_at (OfThread (thread_of a)), beside_at (OfThread u), in_own a, in_beside b _ (has_touched b u is), and_from (thread_of a == u) true same refl)

of_conflict : (a b : Item) → conflict a b ≡ true → AreAgainst a b
unfolding conflict
of_conflict a b is =
    ⊎_elim
    (λ one. ⊎_elim
    (λ two. ⊎_elim
    (λ three. ⊎_elim
    (λ thread. (main_at (OfThread (thread_of a)), main_at (OfThread (thread_of b)), in_own a, in_own b, and_from (thread_of a == thread_of b) true thread refl))
    (λ m. on_monitors a b (monitor_of a) (monitor_of b) refl refl m)
    (or_split (thread_of a == thread_of b) (same_number (monitor_of a) (monitor_of b)) three))
    (λ v. on_variables a b (variable_of a) (variable_of b) refl refl v)
    (or_split _ (on_one_variable (variable_of a) (variable_of b) && (is_write a || is_write b)) two))
    (λ u. on_touched a b (started_or_joined a) refl u)
    (or_split _ (same_number (started_or_joined a) (Some (thread_of b))) one))
    (λ u. on_touching a b (started_or_joined b) refl u)
    (or_split _ (same_number (Some (thread_of a)) (started_or_joined b)) is)

-- ---- From accesses to a conflict

-- Each of the five causes makes a conflict.
by_thread : (a b : Item) → (thread_of a == thread_of b) ≡ true → conflict a b ≡ true
unfolding conflict
by_thread a b is = or_first _ _ (or_first _ _ (or_first _ _ (or_first _ _ is)))

by_monitor : (a b : Item) → same_number (monitor_of a) (monitor_of b) ≡ true → conflict a b ≡ true
unfolding conflict
by_monitor a b is = or_first _ _ (or_first _ _ (or_first _ _ (or_second (thread_of a == thread_of b) _ is)))

by_variable : (a b : Item) → (on_one_variable (variable_of a) (variable_of b) && (is_write a || is_write b)) ≡ true → conflict a b ≡ true
unfolding conflict
by_variable a b is = or_first _ _ (or_first _ _ (or_second ((thread_of a == thread_of b) || same_number (monitor_of a) (monitor_of b)) _ is))

by_touched : (a b : Item) → same_number (started_or_joined a) (Some (thread_of b)) ≡ true → conflict a b ≡ true
unfolding conflict
by_touched a b is = or_first _ _ (or_second ((thread_of a == thread_of b) || same_number (monitor_of a) (monitor_of b) || (on_one_variable (variable_of a) (variable_of b) && (is_write a || is_write b))) _ is)

by_touching : (a b : Item) → same_number (Some (thread_of a)) (started_or_joined b) ≡ true → conflict a b ≡ true
unfolding conflict
by_touching a b is = or_second ((thread_of a == thread_of b) || same_number (monitor_of a) (monitor_of b) || (on_one_variable (variable_of a) (variable_of b) && (is_write a || is_write b)) || same_number (started_or_joined a) (Some (thread_of b))) _ is

place_test : (p q : Place) (c d : Bool) → (same_place p q && (c || d)) ≡ true → same_place p q ≡ true
place_test p q c d is = (and_parts (same_place p q) (c || d) is).0

never : (b : Bool) → b ≡ true → b ≡ false → ⊥
never b is not = true≢false (sym is ∙ not)

meet : (a b : Item) (x y : Access) → IsOf a x → IsOf b y → against x y ≡ true → conflict a b ≡ true
meet a b x y (own s) (own t) is = by_thread a b (place_test (OfThread (thread_of a)) (OfThread (thread_of b)) true true (ap (λ (z : Access). against z (main_at (OfThread (thread_of b)))) (sym s) ∙ ap (against x) (sym t) ∙ is))
meet a b x y (own s) (monitor q m t) is = absurd (never _ is (ap (λ (z : Access). against z y) s ∙ ap (against (main_at (OfThread (thread_of a)))) t))
meet a b x y (own s) (on_variable w v t) is = absurd (never _ is (ap (λ (z : Access). against z y) s ∙ ap (against (main_at (OfThread (thread_of a)))) t))
meet a b x y (own s) (touched u e t) is =
    by_touching a b (ap (same_number (Some (thread_of a))) e ∙ place_test (OfThread (thread_of a)) (OfThread u) true false (ap (λ (z : Access). against z (beside_at (OfThread u))) (sym s) ∙ ap (against x) (sym t) ∙ is))
meet a b x y (monitor r n s) (own t) is = absurd (never _ is (ap (λ (z : Access). against z y) s ∙ ap (against (main_at (OfMonitor r))) t))
meet a b x y (monitor r n s) (monitor q m t) is =
    by_monitor a b (ap (λ (o : Option ℕ). same_number o (monitor_of b)) n ∙ ap (same_number (Some r)) m ∙ place_test (OfMonitor r) (OfMonitor q) true true (ap (λ (z : Access). against z (main_at (OfMonitor q))) (sym s) ∙ ap (against x) (sym t) ∙ is))
meet a b x y (monitor r n s) (on_variable w v t) is = absurd (never _ is (ap (λ (z : Access). against z y) s ∙ ap (against (main_at (OfMonitor r))) t))
meet a b x y (monitor r n s) (touched u e t) is = absurd (never _ is (ap (λ (z : Access). against z y) s ∙ ap (against (main_at (OfMonitor r))) t))
meet a b x y (on_variable v n s) (own t) is = absurd (never _ is (ap (λ (z : Access). against z y) s ∙ ap (against (access (OfVariable v) (is_write a))) t))
meet a b x y (on_variable v n s) (monitor q m t) is = absurd (never _ is (ap (λ (z : Access). against z y) s ∙ ap (against (access (OfVariable v) (is_write a))) t))
meet a b x y (on_variable v n s) (on_variable w m t) is =
    by_variable a b (ap (λ (o : Option Variable). on_one_variable o (variable_of b) && (is_write a || is_write b)) n ∙ ap (λ (o : Option Variable). on_one_variable (Some v) o && (is_write a || is_write b)) m
    ∙ ap (λ (z : Access). against z (access (OfVariable w) (is_write b))) (sym s) ∙ ap (against x) (sym t) ∙ is)
meet a b x y (on_variable v n s) (touched u e t) is = absurd (never _ is (ap (λ (z : Access). against z y) s ∙ ap (against (access (OfVariable v) (is_write a))) t))
meet a b x y (touched u e s) (own t) is =
    by_touched a b (ap (λ (o : Option ℕ). same_number o (Some (thread_of b))) e ∙ place_test (OfThread u) (OfThread (thread_of b)) false true (ap (λ (z : Access). against z (main_at (OfThread (thread_of b)))) (sym s) ∙ ap (against x) (sym t) ∙ is))
meet a b x y (touched u e s) (monitor q m t) is = absurd (never _ is (ap (λ (z : Access). against z y) s ∙ ap (against (beside_at (OfThread u))) t))
meet a b x y (touched u e s) (on_variable w m t) is = absurd (never _ is (ap (λ (z : Access). against z y) s ∙ ap (against (beside_at (OfThread u))) t))
meet a b x y (touched u e s) (touched w f t) is =
    absurd (true≢false (sym (and_parts (u == w) false (ap (λ (z : Access). against z (beside_at (OfThread w))) (sym s) ∙ ap (against x) (sym t) ∙ is)).1))

to_conflict : (a b : Item) → AreAgainst a b → conflict a b ≡ true
to_conflict a b w = meet a b w.0 w.1 (kind a w.0 w.2) (kind b w.1 w.3) w.4

pub conflict_is_against : (a b : Item) → (conflict a b ≡ true) ↔ AreAgainst a b
conflict_is_against a b = (of_conflict a b, to_conflict a b)
