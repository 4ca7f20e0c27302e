-- In each order of a trace's events that keeps conflicts each read has its write.
use Rattle.std.proofs.Common.{◌≡◌, ℕ, ◌≤◌, Bool, true, false, ◌&&◌, ◌||◌, ◌==◌, if◌then◌else◌, List, [], ◌∷◌, ◌++◌, Option, Some, None, ◌⊎◌, inl, inr, ⊎_elim, refl, sym, ap, ◌∙◌, subst, true≢false, arith, IsTrue, le_antisymm}
use Rattle.std.specs.List.{AllByRecursion}
use Rattle.std.specs.Cmp.Lexicographic.{bytes_decides}
use Rattle.std.proofs.lemmas.Bool.{and_from, and_parts, cases_lt, eqb-true, or_left, or_right}
use Rattle.jvms_file.specs.Names.{same_text}
use Rattle.jvms_program.specs.Slots.{same_key}
use Rattle.jvms_program.specs.declared.key.FieldKey.{FieldKey}
use Rattle.jvms_machine.specs.declared.trace.Item.{Item}
use Rattle.jvms_machine.specs.declared.trace.Item.TheVariants as item
use Rattle.jvms_machine.specs.declared.trace.Variable.{Variable}
use Rattle.jvms_machine.specs.declared.trace.Variable.TheVariants as variable
use Rattle.jvms_machine.specs.Events.{thread_of}
use Rattle.velodrome.specs.Conflicts.{conflict, is_write, monitor_of, on_one_variable, same_number, same_variable, started_or_joined, variable_of}
use Rattle.velodrome.specs.Cycles.{IsBefore, IsIn}
use Rattle.velodrome.specs.Rearrangements.{KeepsConflicts, ReadsTheSame, is_read, last_write}
use Rattle.velodrome.specs.Transactions.{Event}
use Rattle.serial_order.proofs.Members.{all_in, all_of_members, in_back, in_either, in_front}

-- ---- Variables are equal if their test says so

one_text : (a b : List ℕ) → same_text a b ≡ true → a ≡ b
one_text a b same = (bytes_decides a b).0 same

one_key : (a b : FieldKey) → same_key a b ≡ true → a ≡ b
one_key a b same =
    let both = and_parts (same_text a.class b.class) _ same in
    let rest = and_parts (same_text a.name b.name) _ both.1 in
    let class = one_text a.class b.class both.0 in
    let name = one_text a.name b.name rest.0 in
    let descriptor = one_text a.descriptor b.descriptor rest.1 in
    ap (λ (c : List ℕ). record { class = c; name = a.name; descriptor = a.descriptor }) class
    ∙ ap (λ (n : List ℕ). record { class = b.class; name = n; descriptor = a.descriptor }) name
    ∙ ap (λ (d : List ℕ). record { class = b.class; name = b.name; descriptor = d }) descriptor

one_variable : (v w : Variable) → same_variable v w ≡ true → v ≡ w
one_variable (variable.Instance r k) (variable.Instance q l) same = let both = and_parts (r == q) _ same in ap (λ (n : ℕ). variable.Instance n k) (eqb-true r q both.0) ∙ ap (λ (m : FieldKey). variable.Instance q m) (one_key k l both.1)
one_variable (variable.Instance r k) (variable.Static l) same = absurd (true≢false (sym same))
one_variable (variable.Instance r k) (variable.Element q j) same = absurd (true≢false (sym same))
one_variable (variable.Static k) (variable.Instance q l) same = absurd (true≢false (sym same))
one_variable (variable.Static k) (variable.Static l) same = ap (λ (m : FieldKey). variable.Static m) (one_key k l same)
one_variable (variable.Static k) (variable.Element q j) same = absurd (true≢false (sym same))
one_variable (variable.Element r i) (variable.Instance q l) same = absurd (true≢false (sym same))
one_variable (variable.Element r i) (variable.Static l) same = absurd (true≢false (sym same))
one_variable (variable.Element r i) (variable.Element q j) same = let both = and_parts (r == q) _ same in ap (λ (n : ℕ). variable.Element n i) (eqb-true r q both.0) ∙ ap (λ (n : ℕ). variable.Element q n) (eqb-true i j both.1)

one_of : (v w : Option Variable) → on_one_variable v w ≡ true → v ≡ w
one_of (Some v) (Some w) same = ap (λ (x : Variable). Some x) (one_variable v w same)
one_of (Some v) None same = absurd (true≢false (sym same))
one_of None w same = absurd (true≢false (sym same))

-- ---- Events on one variable

-- An event writes a variable.
abbrev pub writes : Option Variable → Event → Bool
writes v e = is_write e.item && on_one_variable (variable_of e.item) v

third : (a b c d e : Bool) → c ≡ true → IsTrue (a || b || c || d || e)
third true b c d e is = refl
third false true c d e is = refl
third false false true d e is = refl
third false false false d e is = absurd (true≢false (sym is))

-- An event that writes a variable conflicts with each event on it, in either order.
write_conflicts : (w e : Event) → is_write w.item ≡ true → on_one_variable (variable_of w.item) (variable_of e.item) ≡ true → IsTrue (conflict w.item e.item)
unfolding conflict
write_conflicts w e wrote one =
    third (thread_of w.item == thread_of e.item) (same_number (monitor_of w.item) (monitor_of e.item)) (on_one_variable (variable_of w.item) (variable_of e.item) && (is_write w.item || is_write e.item)) (same_number (started_or_joined w.item) (Some (thread_of e.item))) (same_number (Some (thread_of w.item)) (started_or_joined e.item))
    (and_from (on_one_variable (variable_of w.item) (variable_of e.item)) (is_write w.item || is_write e.item) one (or_left (is_write w.item) (is_write e.item) wrote))

conflicts_write : (w e : Event) → is_write w.item ≡ true → on_one_variable (variable_of w.item) (variable_of e.item) ≡ true → IsTrue (conflict e.item w.item)
unfolding conflict
conflicts_write w e wrote one =
    third (thread_of e.item == thread_of w.item) (same_number (monitor_of e.item) (monitor_of w.item)) (on_one_variable (variable_of e.item) (variable_of w.item) && (is_write e.item || is_write w.item)) (same_number (started_or_joined e.item) (Some (thread_of w.item))) (same_number (Some (thread_of e.item)) (started_or_joined w.item))
    (and_from (on_one_variable (variable_of e.item) (variable_of w.item)) (is_write e.item || is_write w.item) turned (or_right (is_write e.item) (is_write w.item) wrote))
  where
    is : variable_of w.item ≡ variable_of e.item
    is = one_of (variable_of w.item) (variable_of e.item) one

    turned : on_one_variable (variable_of e.item) (variable_of w.item) ≡ true
    turned = subst (λ v. on_one_variable (variable_of e.item) v ≡ true) (sym is) (subst (λ v. on_one_variable v (variable_of e.item) ≡ true) is one)

read_is_no_write : (i : Item) → is_read i ≡ true → is_write i ≡ true → ⊥
read_is_no_write (item.Read t v) read wrote = true≢false (sym wrote)
read_is_no_write (item.Write t v) read wrote = true≢false (sym read)
read_is_no_write (item.Acquire t r) read wrote = true≢false (sym wrote)
read_is_no_write (item.Release t r) read wrote = true≢false (sym wrote)
read_is_no_write (item.Fork t u) read wrote = true≢false (sym wrote)
read_is_no_write (item.Join t u) read wrote = true≢false (sym wrote)
read_is_no_write (item.Enter t m) read wrote = true≢false (sym wrote)
read_is_no_write (item.Exit t m) read wrote = true≢false (sym wrote)

-- ---- The last write among events that keep conflicts has the highest number

abbrev IsLast : Option Variable → Option ℕ → List Event → Option ℕ → Type 0
IsLast v before events last =
    ((last ≡ before) × ((u : Event) → IsIn u events → writes v u ≡ true → ⊥))
    ⊎ ((w : Event) × IsIn w events × (writes v w ≡ true) × (last ≡ Some w.number) × ((u : Event) → IsIn u events → writes v u ≡ true → u.number ≤ w.number))

-- If both write the variable, the second has no greater number than the first.
not_above : (v : Option Variable) (e w : Event) → (IsBefore w e → ⊥) → writes v e ≡ true → writes v w ≡ true → e.number ≤ w.number
not_above v e w none of_e of_w = ⊎_elim (λ less. absurd (none (less, write_conflicts w e (and_parts (is_write w.item) _ of_w).0 one))) (λ enough. enough) (cases_lt w.number e.number)
  where
    one : on_one_variable (variable_of w.item) (variable_of e.item) ≡ true
    one = subst (λ x. on_one_variable (variable_of w.item) x ≡ true) (sym (one_of (variable_of e.item) v (and_parts (is_write e.item) _ of_e).1)) (and_parts (is_write w.item) _ of_w).1

last_more : (v : Option Variable) (before : Option ℕ) (e : Event) (events : List Event) (b : Bool) (last : Option ℕ) → AllByRecursion (λ f. IsBefore f e → ⊥) events → writes v e ≡ b → IsLast v (if b then Some e.number else before) events last → IsLast v before (e ∷ events) last
last_more v before e events true last keeps is (inl none) = inr (e, inl refl, is, none.0, λ u in_u of_u. bound u in_u of_u)
  where
    bound : (u : Event) → IsIn u (e ∷ events) → writes v u ≡ true → u.number ≤ e.number
    bound u (inl same) of_u = let equal = ap (λ (x : Event). x.number) same in omega arith
    bound u (inr more) of_u = absurd (none.1 u more of_u)
last_more v before e events true last keeps is (inr some) = inr (some.0, inr some.1, some.2, some.3, λ u in_u of_u. bound u in_u of_u)
  where
    bound : (u : Event) → IsIn u (e ∷ events) → writes v u ≡ true → u.number ≤ some.0.number
    bound u (inl same) of_u = let equal = ap (λ (x : Event). x.number) same in let less = not_above v e some.0 (all_in (λ f. IsBefore f e → ⊥) events some.0 keeps some.1) is some.2 in omega arith
    bound u (inr more) of_u = some.4 u more of_u
last_more v before e events false last keeps is (inl none) = inl (none.0, λ u in_u of_u. nothing u in_u of_u)
  where
    nothing : (u : Event) → IsIn u (e ∷ events) → writes v u ≡ true → ⊥
    nothing u (inl same) of_u = true≢false (sym of_u ∙ ap (writes v) same ∙ is)
    nothing u (inr more) of_u = none.1 u more of_u
last_more v before e events false last keeps is (inr some) = inr (some.0, inr some.1, some.2, some.3, λ u in_u of_u. bound u in_u of_u)
  where
    bound : (u : Event) → IsIn u (e ∷ events) → writes v u ≡ true → u.number ≤ some.0.number
    bound u (inl same) of_u = absurd (true≢false (sym of_u ∙ ap (writes v) same ∙ is))
    bound u (inr more) of_u = some.4 u more of_u

last_is : (v : Option Variable) (events : List Event) (before : Option ℕ) → KeepsConflicts events → IsLast v before events (last_write v before events)
last_is v [] before keeps = inl (refl, λ u none of_u. none)
last_is v (e ∷ events) before keeps = last_more v before e events (writes v e) _ keeps.0 refl (last_is v events (if writes v e then Some e.number else before) keeps.1)

one_last : (v : Option Variable) (xs ys : List Event) (m n : Option ℕ) → ((u : Event) → IsIn u xs → writes v u ≡ true → IsIn u ys) → ((u : Event) → IsIn u ys → writes v u ≡ true → IsIn u xs) → IsLast v None xs m → IsLast v None ys n → m ≡ n
one_last v xs ys m n there back (inl none) (inl also) = none.0 ∙ sym also.0
one_last v xs ys m n there back (inl none) (inr some) = absurd (none.1 some.0 (back some.0 some.1 some.2) some.2)
one_last v xs ys m n there back (inr some) (inl none) = absurd (none.1 some.0 (there some.0 some.1 some.2) some.2)
one_last v xs ys m n there back (inr some) (inr also) =
    let up = also.4 some.0 (there some.0 some.1 some.2) some.2 in
    let down = some.4 also.0 (back also.0 also.1 also.2) also.2 in
    let same : some.0.number ≡ also.0.number = omega arith in
    some.3 ∙ ap (λ (k : ℕ). Some k) same ∙ sym also.3

-- ---- Before and after an event

keeps_front : (xs ys : List Event) → KeepsConflicts (xs ++ ys) → KeepsConflicts xs
keeps_front [] ys keeps = tt
keeps_front (x ∷ xs) ys keeps = (all_of_members (λ f. IsBefore f x → ⊥) xs (λ f in_xs. all_in (λ g. IsBefore g x → ⊥) (xs ++ ys) f keeps.0 (in_front f xs ys in_xs)), keeps_front xs ys keeps.1)

front_kept : (xs ys : List Event) (e w : Event) → KeepsConflicts (xs ++ e ∷ ys) → IsIn w xs → IsBefore e w → ⊥
front_kept [] ys e w keeps in_xs before = in_xs
front_kept (x ∷ xs) ys e w keeps (inl same) before = all_in (λ g. IsBefore g x → ⊥) (xs ++ e ∷ ys) e keeps.0 (in_back e xs (e ∷ ys) (inl refl)) (subst (λ (y : Event). IsBefore e y) same before)
front_kept (x ∷ xs) ys e w keeps (inr more) before = front_kept xs ys e w keeps.1 more before

back_kept : (xs ys : List Event) (e w : Event) → KeepsConflicts (xs ++ e ∷ ys) → IsIn w ys → IsBefore w e → ⊥
back_kept [] ys e w keeps in_ys before = all_in (λ g. IsBefore g e → ⊥) ys w keeps.0 in_ys before
back_kept (x ∷ xs) ys e w keeps in_ys before = back_kept xs ys e w keeps.1 in_ys before

-- A write of a read's variable that is before the read in one order is before it in the other.
crosses : (events xs ys zs us : List Event) (e w : Event) → ((f g : Event) → IsIn f events → IsIn g events → f.number ≡ g.number → f ≡ g)
    → KeepsConflicts (xs ++ e ∷ ys) → KeepsConflicts (zs ++ e ∷ us) → ((f : Event) → IsIn f (xs ++ e ∷ ys) → IsIn f events) → ((f : Event) → IsIn f (xs ++ e ∷ ys) → IsIn f (zs ++ e ∷ us))
    → is_read e.item ≡ true → IsIn w xs → writes (variable_of e.item) w ≡ true → IsIn w zs
crosses events xs ys zs us e w one keeps also in_events there read in_xs of_w = of (in_either w zs (e ∷ us) (there w (in_front w xs (e ∷ ys) in_xs)))
  where
    wrote : is_write w.item ≡ true
    wrote = (and_parts (is_write w.item) _ of_w).0

    touches : on_one_variable (variable_of w.item) (variable_of e.item) ≡ true
    touches = (and_parts (is_write w.item) _ of_w).1

    never : w ≡ e → ⊥
    never same = read_is_no_write e.item read (subst (λ (x : Event). is_write x.item ≡ true) same wrote)

    behind : IsIn w us → ⊥
    behind in_us = ⊎_elim
        (λ less. back_kept zs us e w also in_us (less, write_conflicts w e wrote touches))
        (λ enough. ⊎_elim
        (λ more. front_kept xs ys e w keeps in_xs (more, conflicts_write w e wrote touches))
        (λ most. never (one w e (in_events w (in_front w xs (e ∷ ys) in_xs)) (in_events e (in_back e xs (e ∷ ys) (inl refl))) (le_antisymm most enough)))
        (cases_lt e.number w.number))
        (cases_lt w.number e.number)

    of : IsIn w zs ⊎ IsIn w (e ∷ us) → IsIn w zs
    of (inl front) = front
    of (inr (inl same)) = absurd (never same)
    of (inr (inr more)) = absurd (behind more)

-- Two orders of the same events that keep conflicts have the same last write before each read.
pub reads_the_same : (events serial : List Event) → ((f g : Event) → IsIn f events → IsIn g events → f.number ≡ g.number → f ≡ g) → KeepsConflicts events → KeepsConflicts serial
    → ((f : Event) → IsIn f events → IsIn f serial) → ((f : Event) → IsIn f serial → IsIn f events) → ReadsTheSame events serial
reads_the_same events serial one keeps also there back before after front behind e read is_events is_serial =
    one_last (variable_of e.item) before front _ _
    (λ u in_before of_u. crosses events before after front behind e u one keeps_events keeps_serial (λ f. subst (λ xs. IsIn f xs → IsIn f events) is_events (λ h. h)) (λ f in_f. subst (λ xs. IsIn f xs) is_serial (there f (subst (λ xs. IsIn f xs) (sym is_events) in_f))) read in_before of_u)
    (λ u in_front of_u. crosses events front behind before after e u one keeps_serial keeps_events (λ f in_f. back f (subst (λ xs. IsIn f xs) (sym is_serial) in_f)) (λ f in_f. subst (λ xs. IsIn f xs) is_events (back f (subst (λ xs. IsIn f xs) (sym is_serial) in_f))) read in_front of_u)
    (last_is (variable_of e.item) before None (keeps_front before (e ∷ after) keeps_events))
    (last_is (variable_of e.item) front None (keeps_front front (e ∷ behind) keeps_serial))
  where
    keeps_events : KeepsConflicts (before ++ e ∷ after)
    keeps_events = subst KeepsConflicts is_events keeps

    keeps_serial : KeepsConflicts (front ++ e ∷ behind)
    keeps_serial = subst KeepsConflicts is_serial also
