-- Breakpoints in slots: look-up by number, addition, deletion and dropping.
use Rattle.std.proofs.Common.{◌≡◌, ◌≢◌, ℕ, zero, suc, ◌+◌, ◌*◌, ◌<◌, ◌≤◌, ◌==◌, ◌||◌, ◌&&◌, not, nat_lt, Bool, true, false, cond, List, [], ◌∷◌, ◌++◌, Some, None, length, take, drop, set, get_or, refl, sym, ap, ◌∙◌, arith, subst}
use Rattle.std.proofs.lemmas.Bool.{eq-eqb, ne_eqb, lt-ltb, le-ltb}
use Rattle.std.proofs.lemmas.List.{drop_more, length-append, length-set, map-append, set_split, take-append-drop}
use Rattle.std.proofs.Math.Nat.{lt_irrefl}
use Rattle.std.specs.List.{remove, filter, list_any, position_or_len}
use Rattle.std.specs.List.Sorted.{IsNonDecreasingBy}
use Rattle.debugger_commands.specs.declared.breakpoint.Breakpoint.{Breakpoint}
use Rattle.debugger_commands.specs.Sessions.{breakpoint_index}
use Rattle.debugger.specs.declared.breakpoints.Slot.{Slot}
use Rattle.debugger.specs.Breakpoints.{AreSlots, IsSlotOf, Rises, breakpoints_of, numbers}

-- ---- Breakpoints of concatenated slots

kept_first : (b : Bool) (x : Breakpoint) (xs ys : List Breakpoint) → cond b (xs ++ ys) (x ∷ (xs ++ ys)) ≡ cond b xs (x ∷ xs) ++ ys
kept_first true x xs ys = refl
kept_first false x xs ys = refl

pub kept_append : (xs ys : List Slot) → breakpoints_of (xs ++ ys) ≡ breakpoints_of xs ++ breakpoints_of ys
kept_append [] ys = refl
kept_append (s ∷ xs) ys = ap (λ l. cond s.is_deleted l (s.breakpoint ∷ l)) (kept_append xs ys) ∙ kept_first s.is_deleted s.breakpoint (breakpoints_of xs) (breakpoints_of ys)

-- A test of all breakpoints, slot by slot.
any_first : (b t r : Bool) → (t && not b) || r ≡ cond b r (t || r)
any_first true true r = refl
any_first true false r = refl
any_first false true r = refl
any_first false false r = refl

any_cond : (f : Breakpoint → Bool) (b : Bool) (x : Breakpoint) (xs : List Breakpoint) → cond b (list_any f xs) (f x || list_any f xs) ≡ list_any f (cond b xs (x ∷ xs))
any_cond f true x xs = refl
any_cond f false x xs = refl

pub any_kept : (f : Breakpoint → Bool) (slots : List Slot) → list_any (λ (s : Slot). f s.breakpoint && not s.is_deleted) slots ≡ list_any f (breakpoints_of slots)
any_kept f [] = refl
any_kept f (s ∷ slots) =
    ap (λ r. (f s.breakpoint && not s.is_deleted) || r) (any_kept f slots) ∙ any_first s.is_deleted (f s.breakpoint) (list_any f (breakpoints_of slots)) ∙ any_cond f s.is_deleted s.breakpoint (breakpoints_of slots)

-- ---- Slots of deleted breakpoints are dropped

dropped_first : (b : Bool) (s : Slot) (slots : List Slot) → s.is_deleted ≡ b → breakpoints_of (cond (not b) (s ∷ slots) slots) ≡ cond b (breakpoints_of slots) (s.breakpoint ∷ breakpoints_of slots)
dropped_first true s slots is = refl
dropped_first false s slots is = ap (λ b. cond b (breakpoints_of slots) (s.breakpoint ∷ breakpoints_of slots)) is

pub kept_dropped : (slots : List Slot) → breakpoints_of (filter (λ (s : Slot). not s.is_deleted) slots) ≡ breakpoints_of slots
kept_dropped [] = refl
kept_dropped (s ∷ slots) =
    dropped_first s.is_deleted s (filter (λ (x : Slot). not x.is_deleted) slots) refl ∙ ap (λ l. cond s.is_deleted l (s.breakpoint ∷ l)) (kept_dropped slots)

all_first : (b : Bool) (s : Slot) (slots : List Slot) (bs : List Breakpoint) → length bs ≡ length slots → length (cond b bs (s.breakpoint ∷ bs)) ≡ length (cond (not b) (s ∷ slots) slots)
all_first true s slots bs same = same
all_first false s slots bs same = ap suc same

-- Then each slot has a breakpoint.
pub all_kept : (slots : List Slot) → length (breakpoints_of slots) ≡ length (filter (λ (s : Slot). not s.is_deleted) slots)
all_kept [] = refl
all_kept (s ∷ slots) = all_first s.is_deleted s (filter (λ (x : Slot). not x.is_deleted) slots) (breakpoints_of slots) (all_kept slots)

-- ---- Ascending numbers

pub rises_from : (low less end : ℕ) (ns : List ℕ) → less ≤ low → Rises low end ns → Rises less end ns
rises_from low less end [] h is = omega (arith, h, is)
rises_from low less end (n ∷ ns) h is = (omega (arith, h, is.0), is.1)

pub rises_more : (low end : ℕ) (ns : List ℕ) → Rises low end ns → Rises low (end + 1) (ns ++ end ∷ [])
rises_more low end [] is = (is, omega arith)
rises_more low end (n ∷ ns) is = (is.0, rises_more (n + 1) end ns is.1)

rises_cond : (b : Bool) (low end : ℕ) (s : Slot) (slots : List Slot) → low ≤ s.breakpoint.number → Rises (s.breakpoint.number + 1) end (numbers slots) → Rises low end (numbers (cond b (s ∷ slots) slots))
rises_cond true low end s slots h is = (h, is)
rises_cond false low end s slots h is = rises_from (s.breakpoint.number + 1) low end (numbers slots) (omega arith) is

pub rises_filter : (p : Slot → Bool) (low end : ℕ) (slots : List Slot) → Rises low end (numbers slots) → Rises low end (numbers (filter p slots))
rises_filter p low end [] is = is
rises_filter p low end (s ∷ slots) is = rises_cond (p s) low end s (filter p slots) is.0 (rises_filter p (s.breakpoint.number + 1) end slots is.1)

pub rises_low : (low end : ℕ) (ns : List ℕ) → Rises low end ns → low ≤ end
rises_low low end [] is = is
rises_low low end (n ∷ ns) is =
    let more : n + 1 ≤ end = rises_low (n + 1) end ns is.1 in
    omega (arith, more, is.0)

-- ---- Slots are ordered by their numbers

least : (low end : ℕ) (slots : List Slot) → Rises low end (numbers slots) → (j : ℕ) (d : Slot) → j < length slots → low ≤ (get_or slots j d).breakpoint.number
least low end [] is j d within = let no : ⊥ = omega arith in absurd no
least low end (s ∷ slots) is zero d within = is.0
least low end (s ∷ slots) is (suc j) d within =
    let more : s.breakpoint.number + 1 ≤ (get_or slots j d).breakpoint.number = least (s.breakpoint.number + 1) end slots is.1 j d (omega arith) in
    omega (arith, is.0, more)

pub ordered : (low end : ℕ) (slots : List Slot) → Rises low end (numbers slots) → IsNonDecreasingBy (λ (s : Slot). s.breakpoint.number) slots
ordered low end [] is i j d up within = let no : ⊥ = omega arith in absurd no
ordered low end (s ∷ slots) is zero zero d up within = omega arith
ordered low end (s ∷ slots) is zero (suc j) d up within =
    let more : s.breakpoint.number + 1 ≤ (get_or slots j d).breakpoint.number = least (s.breakpoint.number + 1) end slots is.1 j d (omega arith) in
    omega (arith, more)
ordered low end (s ∷ slots) is (suc i) zero d up within = let no : ⊥ = omega arith in absurd no
ordered low end (s ∷ slots) is (suc i) (suc j) d up within = ordered (s.breakpoint.number + 1) end slots is.1 i j d (omega arith) (omega arith)

-- ---- Breakpoints of other numbers

abbrev AllOthers : ℕ → List Breakpoint → Type 0
AllOthers k [] = Unit {0}
AllOthers k (b ∷ bs) = (b.number ≢ k) × AllOthers k bs

others_append : (k : ℕ) (xs ys : List Breakpoint) → AllOthers k xs → AllOthers k ys → AllOthers k (xs ++ ys)
others_append k [] ys h is = is
others_append k (x ∷ xs) ys h is = (h.0, others_append k xs ys h.1 is)

others_cond : (k : ℕ) (t : Bool) (b : Breakpoint) (bs : List Breakpoint) → (t ≡ false → b.number ≢ k) → AllOthers k bs → AllOthers k (cond t bs (b ∷ bs))
others_cond k true b bs h is = is
others_cond k false b bs h is = (h refl, is)

first_after : (k : ℕ) (xs : List Breakpoint) (b : Breakpoint) (ys : List Breakpoint) → AllOthers k xs → b.number ≡ k → position_or_len (λ (x : Breakpoint). x.number == k) (xs ++ b ∷ ys) ≡ length xs
first_after k [] b ys is here = ap (λ t. cond (not t) (1 + position_or_len (λ (x : Breakpoint). x.number == k) ys) 0) (eq-eqb b.number k here)
first_after k (x ∷ xs) b ys is here =
    let rest : position_or_len (λ (x : Breakpoint). x.number == k) (xs ++ b ∷ ys) ≡ length xs = first_after k xs b ys is.1 here in
    ap (λ t. cond (not t) (1 + position_or_len (λ (x : Breakpoint). x.number == k) (xs ++ b ∷ ys)) 0) (ne_eqb x.number k is.0) ∙ omega (arith, rest)

-- The first breakpoint with a number, after those with others.
index_after : (k : ℕ) (xs : List Breakpoint) (b : Breakpoint) (ys : List Breakpoint) → AllOthers k xs → b.number ≡ k → breakpoint_index k (xs ++ b ∷ ys) ≡ Some (length xs)
index_after k xs b ys is here =
    let count : length (xs ++ b ∷ ys) ≡ length xs + length (b ∷ ys) = length-append xs (b ∷ ys) in
    let within : length xs < length (xs ++ b ∷ ys) = omega (arith, count) in
    ap (λ n. cond (nat_lt n (length (xs ++ b ∷ ys))) (Some n) None) (first_after k xs b ys is here)
    ∙ ap (λ t. cond t (Some (length xs)) None) (lt-ltb (length xs) (length (xs ++ b ∷ ys)) within)

none_first : (k : ℕ) (xs : List Breakpoint) → AllOthers k xs → position_or_len (λ (x : Breakpoint). x.number == k) xs ≡ length xs
none_first k [] is = refl
none_first k (x ∷ xs) is =
    let rest : position_or_len (λ (x : Breakpoint). x.number == k) xs ≡ length xs = none_first k xs is.1 in
    ap (λ t. cond (not t) (1 + position_or_len (λ (x : Breakpoint). x.number == k) xs) 0) (ne_eqb x.number k is.0) ∙ omega (arith, rest)

no_index : (k : ℕ) (xs : List Breakpoint) → AllOthers k xs → breakpoint_index k xs ≡ None
no_index k xs is =
    ap (λ n. cond (nat_lt n (length xs)) (Some n) None) (none_first k xs is)
    ∙ ap (λ t. cond t (Some (length xs)) None) (le-ltb (length xs) (length xs) (omega arith))

-- ---- A number is found

-- All slots before this one have smaller numbers.
others_before : (k : ℕ) (slots : List Slot) (i : ℕ) → ((j : ℕ) (d : Slot) → j < i → (get_or slots j d).breakpoint.number < k) → AllOthers k (breakpoints_of (take i slots))
others_before k [] zero less = tt
others_before k [] (suc i) less = tt
others_before k (s ∷ slots) zero less = tt
others_before k (s ∷ slots) (suc i) less =
    let first : s.breakpoint.number < k = less 0 s (omega arith) in
    others_cond k s.is_deleted s.breakpoint (breakpoints_of (take i slots)) (λ _ same. lt_irrefl k (omega (arith, first, same))) (others_before k slots i (λ j d below. less (suc j) d (omega arith)))

others_above : (k low end : ℕ) (slots : List Slot) → k < low → Rises low end (numbers slots) → AllOthers k (breakpoints_of slots)
others_above k low end [] above is = tt
others_above k low end (s ∷ slots) above is =
    others_cond k s.is_deleted s.breakpoint (breakpoints_of slots) (λ _ same. lt_irrefl k (omega (arith, above, is.0, same))) (others_above k (s.breakpoint.number + 1) end slots (omega (arith, above, is.0)) is.1)

others_from : (k low end : ℕ) (slots : List Slot) (i : ℕ) → Rises low end (numbers slots) → ((j : ℕ) (d : Slot) → i ≤ j → j < length slots → k ≤ (get_or slots j d).breakpoint.number)
    → (i < length slots → (d : Slot) → (get_or slots i d).is_deleted ≡ false → (get_or slots i d).breakpoint.number ≢ k) → AllOthers k (breakpoints_of (drop i slots))
others_from k low end [] zero is more other = tt
others_from k low end [] (suc i) is more other = tt
others_from k low end (s ∷ slots) zero is more other =
    let first : k ≤ s.breakpoint.number = more 0 s (omega arith) (omega arith) in
    others_cond k s.is_deleted s.breakpoint (breakpoints_of slots) (λ stays. other (omega arith) s stays) (others_above k (s.breakpoint.number + 1) end slots (omega (arith, first)) is.1)
others_from k low end (s ∷ slots) (suc i) is more other =
    others_from k (s.breakpoint.number + 1) end slots i is.1 (λ j d up within. more (suc j) d (omega arith) (omega arith)) (λ within d stays. other (omega arith) d stays)

-- If the slot after all smaller numbers doesn't have the number, none does.
pub not_found : (k low end : ℕ) (slots : List Slot) (i : ℕ) → Rises low end (numbers slots) → ((j : ℕ) (d : Slot) → j < i → (get_or slots j d).breakpoint.number < k)
    → ((j : ℕ) (d : Slot) → i ≤ j → j < length slots → k ≤ (get_or slots j d).breakpoint.number)
    → (i < length slots → (d : Slot) → (get_or slots i d).is_deleted ≡ false → (get_or slots i d).breakpoint.number ≢ k) → breakpoint_index k (breakpoints_of slots) ≡ None
not_found k low end slots i is less more other =
    let parts : breakpoints_of (take i slots) ++ breakpoints_of (drop i slots) ≡ breakpoints_of slots = sym (kept_append (take i slots) (drop i slots)) ∙ ap breakpoints_of (take-append-drop i slots) in
    no_index k (breakpoints_of slots) (subst (AllOthers k) parts (others_append k (breakpoints_of (take i slots)) (breakpoints_of (drop i slots)) (others_before k slots i less) (others_from k low end slots i is more other)))

-- ---- A breakpoint is deleted

remove_after : (xs : List Breakpoint) (b : Breakpoint) (ys : List Breakpoint) → remove (xs ++ b ∷ ys) (length xs) ≡ xs ++ ys
remove_after [] b ys = refl
remove_after (x ∷ xs) b ys = ap (λ l. x ∷ l) (remove_after xs b ys)

kept_stays : (s : Slot) (slots : List Slot) → s.is_deleted ≡ false → breakpoints_of (s ∷ slots) ≡ s.breakpoint ∷ breakpoints_of slots
kept_stays s slots stays = ap (λ t. cond t (breakpoints_of slots) (s.breakpoint ∷ breakpoints_of slots)) stays

-- A slot whose breakpoint is deleted.
abbrev pub deleted_slot : Slot → Slot
deleted_slot s = record { breakpoint = s.breakpoint; is_deleted = true }

numbers_set : (slots : List Slot) (i : ℕ) (s : Slot) → ((d : Slot) → (get_or slots i d).breakpoint.number ≡ s.breakpoint.number) → i < length slots → numbers (set slots i s) ≡ numbers slots
numbers_set [] i s same within = let no : ⊥ = omega arith in absurd no
numbers_set (x ∷ slots) zero s same within = ap (λ n. n ∷ numbers slots) (sym (same x))
numbers_set (x ∷ slots) (suc i) s same within = ap (λ l. x.breakpoint.number ∷ l) (numbers_set slots i s same (omega arith))

-- The breakpoints before a slot's, the slot's own, and those after it.
kept_split : (k i : ℕ) (slots : List Slot) (s : Slot) → IsSlotOf k slots i → s ≡ get_or slots i s → breakpoints_of slots ≡ breakpoints_of (take i slots) ++ s.breakpoint ∷ breakpoints_of (drop (suc i) slots)
kept_split k i slots s is here =
    let next : i + 1 ≡ suc i = omega arith in
    let split : slots ≡ take i slots ++ s ∷ drop (suc i) slots =
    sym (take-append-drop i slots) ∙ ap (λ l. take i slots ++ l) (drop_more slots i s is.within) ∙ ap (λ x. take i slots ++ x ∷ drop (i + 1) slots) (sym here) ∙ ap (λ n. take i slots ++ s ∷ drop n slots) next in
    let stays : s.is_deleted ≡ false = ap (λ (x : Slot). x.is_deleted) here ∙ is.stays s in
    ap breakpoints_of split ∙ kept_append (take i slots) (s ∷ drop (suc i) slots) ∙ ap (λ l. breakpoints_of (take i slots) ++ l) (kept_stays s (drop (suc i) slots) stays)

kept_set : (k i : ℕ) (slots : List Slot) (s : Slot) → IsSlotOf k slots i → breakpoints_of (set slots i (deleted_slot s)) ≡ breakpoints_of (take i slots) ++ breakpoints_of (drop (suc i) slots)
kept_set k i slots s is = ap breakpoints_of (set_split slots i (deleted_slot s) is.within) ∙ kept_append (take i slots) (deleted_slot s ∷ drop (suc i) slots)

pub removed : (k i : ℕ) (slots : List Slot) (s : Slot) → IsSlotOf k slots i → s ≡ get_or slots i s
    → (p : ℕ) × (breakpoint_index k (breakpoints_of slots) ≡ Some p) × (breakpoints_of (set slots i (deleted_slot s)) ≡ remove (breakpoints_of slots) p)
removed k i slots s is here =
    let front = breakpoints_of (take i slots) in
    let back = breakpoints_of (drop (suc i) slots) in
    let split = kept_split k i slots s is here in
    let number : s.breakpoint.number ≡ k = ap (λ (x : Slot). x.breakpoint.number) here ∙ is.number s in (
      length front,
      ap (breakpoint_index k) split ∙ index_after k front s.breakpoint back (others_before k slots i is.before) number,
      kept_set k i slots s is ∙ sym (ap (λ l. remove l (length front)) split ∙ remove_after front s.breakpoint back),
    )

rising_set : (k i next : ℕ) (slots : List Slot) (s : Slot) → IsSlotOf k slots i → s ≡ get_or slots i s → Rises 0 next (numbers slots) → Rises 0 next (numbers (set slots i (deleted_slot s)))
rising_set k i next slots s is here rising =
    let number : s.breakpoint.number ≡ k = ap (λ (x : Slot). x.breakpoint.number) here ∙ is.number s in
    subst (Rises 0 next) (sym (numbers_set slots i (deleted_slot s) (λ d. is.number d ∙ sym number) is.within)) rising

-- One more slot is of a deleted breakpoint.
pub deleted_slots : (k i deleted next : ℕ) (slots : List Slot) (s : Slot) → AreSlots slots deleted next → IsSlotOf k slots i → s ≡ get_or slots i s → 2 * (deleted + 1) ≤ length slots
    → AreSlots (set slots i (deleted_slot s)) (deleted + 1) next
deleted_slots k i deleted next slots s are is here few =
    let front = breakpoints_of (take i slots) in
    let back = breakpoints_of (drop (suc i) slots) in
    let before : length (breakpoints_of slots) ≡ length front + length (s.breakpoint ∷ back) = ap length (kept_split k i slots s is here) ∙ length-append front (s.breakpoint ∷ back) in
    let after : length (breakpoints_of (set slots i (deleted_slot s))) ≡ length front + length back = ap length (kept_set k i slots s is) ∙ length-append front back in
    let same : length (set slots i (deleted_slot s)) ≡ length slots = length-set slots i (deleted_slot s) in
    record {
      rising = rising_set k i next slots s is here are.rising;
      count = omega (arith, before, after, same, are.count);
      few = omega (arith, same, few);
    }

-- The slots of deleted breakpoints are dropped.
pub dropped_slots : (k i next : ℕ) (slots new : List Slot) (s : Slot) → Rises 0 next (numbers slots) → IsSlotOf k slots i → s ≡ get_or slots i s
    → new ≡ filter (λ (x : Slot). not x.is_deleted) (set slots i (deleted_slot s)) → AreSlots new 0 next
dropped_slots k i next slots new s rising is here new_is =
    let marked = set slots i (deleted_slot s) in
    let left = filter (λ (x : Slot). not x.is_deleted) marked in
    let all : length (breakpoints_of left) ≡ length left = ap length (kept_dropped marked) ∙ all_kept marked in
    let are : AreSlots left 0 next = record {
      rising = rises_filter (λ (x : Slot). not x.is_deleted) 0 next marked (rising_set k i next slots s is here rising);
      count = omega (arith, all);
      few = omega arith;
    } in
    subst (λ l. AreSlots l 0 next) (sym new_is) are

-- ---- A breakpoint is added

pub added_slots : (slots new : List Slot) (deleted next : ℕ) (s : Slot) → AreSlots slots deleted next → new ≡ slots ++ s ∷ [] → s.breakpoint.number ≡ next → s.is_deleted ≡ false → AreSlots new deleted (next + 1)
added_slots slots new deleted next s are new_is number stays =
    let names : numbers (slots ++ s ∷ []) ≡ numbers slots ++ next ∷ [] = map-append (λ (x : Slot). x.breakpoint.number) slots (s ∷ []) ∙ ap (λ n. numbers slots ++ n ∷ []) number in
    let more : length (breakpoints_of (slots ++ s ∷ [])) ≡ length (breakpoints_of slots) + 1 =
    ap length (kept_append slots (s ∷ []) ∙ ap (λ l. breakpoints_of slots ++ l) (kept_stays s [] stays)) ∙ length-append (breakpoints_of slots) (s.breakpoint ∷ []) in
    let count : length (slots ++ s ∷ []) ≡ length slots + 1 = length-append slots (s ∷ []) in
    let all : AreSlots (slots ++ s ∷ []) deleted (next + 1) = record {
      rising = subst (Rises 0 (next + 1)) (sym names) (rises_more 0 next (numbers slots) are.rising);
      count = omega (arith, more, count, are.count);
      few = omega (arith, count, are.few);
    } in
    subst (λ l. AreSlots l deleted (next + 1)) (sym new_is) all

pub kept_added : (slots new : List Slot) (s : Slot) → new ≡ slots ++ s ∷ [] → s.is_deleted ≡ false → breakpoints_of new ≡ breakpoints_of slots ++ s.breakpoint ∷ []
kept_added slots new s new_is stays = ap breakpoints_of new_is ∙ kept_append slots (s ∷ []) ∙ ap (λ l. breakpoints_of slots ++ l) (kept_stays s [] stays)
