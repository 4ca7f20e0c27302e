-- The events of each transaction, in an order of transactions, are a serial order of a trace.
use Rattle.std.proofs.Common.{◌≡◌, ℕ, suc, ◌<◌, ◌≤◌, Bool, true, false, cond, eqb, List, [], ◌∷◌, ◌++◌, length, map, inl, inr, ⊎_elim, refl, sym, ap, ◌∙◌, subst, true≢false, arith}
use Rattle.std.specs.List.{AllByRecursion, IsDistinct, filter}
use Rattle.std.specs.Cmp.{nat_eq_equiv}
use Rattle.std.proofs.lemmas.Bool.{eq-eqb, eqb-true}
use Rattle.std.proofs.lemmas.Bool.Decides.{nat_tests}
use Rattle.std.proofs.lemmas.List.{length-map, map-append}
use Rattle.std.proofs.lemmas.Map.Made.{IsDistinct-from_count}
use Rattle.std.proofs.lemmas.Map.Keys.{IsDistinct-cons, IsDistinct-head, IsDistinct-tail}
use Rattle.jvms_machine.specs.declared.trace.Item.{Item}
use Rattle.velodrome.specs.Cycles.{IsBefore, IsEdge, IsIn}
use Rattle.velodrome.specs.Orders.{IsOrder, NoneLeadsBack}
use Rattle.velodrome.specs.Rearrangements.{AreInOnePiece, IsRearrangement, IsSerial, KeepsConflicts}
use Rattle.velodrome.specs.Specification.{Specification}
use Rattle.velodrome.specs.Transactions.{Event, trace_state_of}
use Rattle.serial_order.specs.Chains.{events_of, in_order}
use Rattle.serial_order.specs.Serial.{IsOrderOf}
use Rattle.serial_order.proofs.Counts.{are_numbers, each_number}
use Rattle.serial_order.proofs.Members.{all_in, all_of_members, in_back, in_either, in_filter, in_front, in_map, of_filter, of_map}
use Rattle.serial_order.proofs.Rearranged.{rearrangement_is_serial}
use Rattle.serial_order.proofs.TraceStates.{AreNumberedFrom, IsCounted, numbered_keep, numbered_within, one_of_number, trace_state_counted}

-- Returns the events of a transaction.
abbrev pub block : ℕ → List Event → List Event
block t events = filter (λ e. eqb e.transaction t) events

-- Returns the events of each transaction, in the order of transactions.
abbrev pub blocks : List Event → List ℕ → List Event
blocks events [] = []
blocks events (t ∷ order) = block t events ++ blocks events order

abbrev pub numbers_of : List Event → List ℕ
numbers_of events = map (λ e. e.number) events

in_block : (t : ℕ) (events : List Event) (e : Event) → IsIn e (block t events) → IsIn e events × (e.transaction ≡ t)
in_block t events e in_kept = let found = of_filter (λ (f : Event). eqb f.transaction t) e events in_kept in (found.0, eqb-true e.transaction t found.1)

-- ---- Which events these are

of_blocks : (events : List Event) (order : List ℕ) (e : Event) → IsIn e (blocks events order) → IsIn e events × IsIn e.transaction order
of_blocks events [] e in_none = absurd in_none
of_blocks events (t ∷ order) e in_all = ⊎_elim
    (λ front. let found = in_block t events e front in (found.0, inl found.1))
    (λ back. let found = of_blocks events order e back in (found.0, inr found.1))
    (in_either e (block t events) (blocks events order) in_all)

in_blocks : (events : List Event) (order : List ℕ) (e : Event) → IsIn e events → IsIn e.transaction order → IsIn e (blocks events order)
in_blocks events [] e in_events in_none = absurd in_none
in_blocks events (t ∷ order) e in_events (inl same) = in_front e (block t events) (blocks events order) (in_filter (λ (f : Event). eqb f.transaction t) e events (eq-eqb e.transaction t same) in_events)
in_blocks events (t ∷ order) e in_events (inr more) = in_back e (block t events) (blocks events order) (in_blocks events order e in_events more)

-- ---- No two of them have one number

distinct_cons : (e : Event) (events : List Event) → ((f : Event) → IsIn f events → e.number ≡ f.number → ⊥) → IsDistinct eqb (numbers_of events) → IsDistinct eqb (numbers_of (e ∷ events))
distinct_cons e events apart distinct = IsDistinct-cons eqb e.number (numbers_of events) (all_of_members (λ n. eqb e.number n ≡ false) (numbers_of events) each) distinct
  where
    each : (n : ℕ) → IsIn n (numbers_of events) → eqb e.number n ≡ false
    each n in_numbers = let found = of_map (λ (f : Event). f.number) n events in_numbers in let other : e.number ≡ n → ⊥ = λ same. apart found.0 found.1 (same ∙ sym found.2) in grind (arith, nat_tests)

distinct_tail : (e : Event) (events : List Event) → IsDistinct eqb (numbers_of (e ∷ events)) → IsDistinct eqb (numbers_of events)
distinct_tail e events distinct = IsDistinct-tail eqb e.number (numbers_of events) distinct

distinct_head : (e f : Event) (events : List Event) → IsDistinct eqb (numbers_of (e ∷ events)) → IsIn f events → e.number ≡ f.number → ⊥
distinct_head e f events distinct in_events same = true≢false (sym (eq-eqb e.number f.number same) ∙ all_in (λ n. eqb e.number n ≡ false) (numbers_of events) f.number (IsDistinct-head eqb e.number (numbers_of events) distinct) (in_map (λ (g : Event). g.number) f events in_events))

distinct_append : (xs ys : List Event) → IsDistinct eqb (numbers_of xs) → IsDistinct eqb (numbers_of ys) → ((e f : Event) → IsIn e xs → IsIn f ys → e.number ≡ f.number → ⊥) → IsDistinct eqb (numbers_of (xs ++ ys))
distinct_append [] ys front back apart = back
distinct_append (x ∷ xs) ys front back apart =
    distinct_cons x (xs ++ ys) each (distinct_append xs ys (distinct_tail x xs front) back (λ e f in_xs in_ys. apart e f (inr in_xs) in_ys))
  where
    each : (f : Event) → IsIn f (xs ++ ys) → x.number ≡ f.number → ⊥
    each f in_both same = ⊎_elim (λ in_xs. distinct_head x f xs front in_xs same) (λ in_ys. apart x f (inl refl) in_ys same) (in_either f xs ys in_both)

pub distinct_none : IsDistinct eqb []
distinct_none = IsDistinct-from_count nat_eq_equiv [] refl

distinct_numbered : (n : ℕ) (events : List Event) → AreNumberedFrom n events → IsDistinct eqb (numbers_of events)
distinct_numbered n [] are = distinct_none
distinct_numbered n (e ∷ events) are = distinct_cons e events (λ f in_events same. let rest = numbered_within (suc n) events f are.1 in_events in let own = are.0 in absurd (omega arith)) (distinct_numbered (suc n) events are.1)

distinct_filter : (test : Event → Bool) (events : List Event) → IsDistinct eqb (numbers_of events) → IsDistinct eqb (numbers_of (filter test events))
distinct_filter test [] distinct = distinct
distinct_filter test (e ∷ events) distinct = by (test e) (distinct_filter test events (distinct_tail e events distinct))
  where
    by : (b : Bool) → IsDistinct eqb (numbers_of (filter test events)) → IsDistinct eqb (numbers_of (cond b (e ∷ filter test events) (filter test events)))
    by true rest = distinct_cons e (filter test events) (λ f in_kept same. distinct_head e f events distinct (of_filter test f events in_kept).0 same) rest
    by false rest = rest

-- ---- They keep conflicts

keeps_filter : (test : Event → Bool) (events : List Event) → KeepsConflicts events → KeepsConflicts (filter test events)
keeps_filter test [] keeps = tt
keeps_filter test (e ∷ events) keeps = by (test e) (keeps_filter test events keeps.1)
  where
    by : (b : Bool) → KeepsConflicts (filter test events) → KeepsConflicts (cond b (e ∷ filter test events) (filter test events))
    by true rest = (all_of_members (λ f. IsBefore f e → ⊥) (filter test events) (λ f in_kept. all_in (λ g. IsBefore g e → ⊥) events f keeps.0 (of_filter test f events in_kept).0), rest)
    by false rest = rest

keeps_append : (xs ys : List Event) → KeepsConflicts xs → KeepsConflicts ys → ((e f : Event) → IsIn e xs → IsIn f ys → IsBefore f e → ⊥) → KeepsConflicts (xs ++ ys)
keeps_append [] ys front back none = back
keeps_append (x ∷ xs) ys front back none =
    (all_of_members (λ f. IsBefore f x → ⊥) (xs ++ ys) each, keeps_append xs ys front.1 back (λ e f in_xs in_ys. none e f (inr in_xs) in_ys))
  where
    each : (f : Event) → IsIn f (xs ++ ys) → IsBefore f x → ⊥
    each f in_both = ⊎_elim (λ in_xs. all_in (λ g. IsBefore g x → ⊥) xs f front.0 in_xs) (λ in_ys. none x f (inl refl) in_ys) (in_either f xs ys in_both)

-- ---- Each transaction is in one piece

piece_append : (t : ℕ) (xs ys : List Event) → AllByRecursion (λ e. e.transaction ≡ t) xs → AllByRecursion (λ e. e.transaction ≡ t → ⊥) ys → AreInOnePiece ys → AreInOnePiece (xs ++ ys)
piece_append t [] ys all none piece = piece
piece_append t (e ∷ []) [] all none piece = tt
piece_append t (e ∷ []) (f ∷ ys) all none piece = ((λ leaves. subst (λ n. AllByRecursion (λ g. g.transaction ≡ n → ⊥) ys) (sym all.0) none.1), piece)
piece_append t (e ∷ f ∷ xs) ys all none piece = ((λ leaves. absurd (leaves (all.1.0 ∙ sym all.0))), piece_append t (f ∷ xs) ys all.1 none piece)

-- ---- Together

other_of : (t : ℕ) (order : List ℕ) → IsDistinct eqb (t ∷ order) → (a : ℕ) → IsIn a order → a ≡ t → ⊥
other_of t order distinct a in_order same = true≢false (sym (eq-eqb t a (sym same)) ∙ all_in (λ n. eqb t n ≡ false) order a (IsDistinct-head eqb t order distinct) in_order)

blocks_keep : (events : List Event) → KeepsConflicts events → (order : List ℕ) → IsDistinct eqb order → NoneLeadsBack events order → KeepsConflicts (blocks events order)
blocks_keep events keeps [] distinct none = tt
blocks_keep events keeps (t ∷ order) distinct none = keeps_append (block t events) (blocks events order) (keeps_filter _ events keeps) (blocks_keep events keeps order (IsDistinct-tail eqb t order distinct) none.1) back
  where
    back : (e f : Event) → IsIn e (block t events) → IsIn f (blocks events order) → IsBefore f e → ⊥
    back e f at_front at_back before =
        let here = in_block t events e at_front in
        let there = of_blocks events order f at_back in
        all_in (λ b. IsEdge events b t → ⊥) order f.transaction none.0 there.1 (other_of t order distinct f.transaction there.1, f, e, (there.0, here.0, refl, here.1, before))

blocks_apart : (events : List Event) → ((e f : Event) → IsIn e events → IsIn f events → e.number ≡ f.number → e ≡ f) → IsDistinct eqb (numbers_of events) → (order : List ℕ) → IsDistinct eqb order → IsDistinct eqb (numbers_of (blocks events order))
blocks_apart events one apart [] distinct = distinct
blocks_apart events one apart (t ∷ order) distinct = distinct_append (block t events) (blocks events order) (distinct_filter _ events apart) (blocks_apart events one apart order (IsDistinct-tail eqb t order distinct)) differ
  where
    differ : (e f : Event) → IsIn e (block t events) → IsIn f (blocks events order) → e.number ≡ f.number → ⊥
    differ e f at_front at_back same =
        let here = in_block t events e at_front in
        let there = of_blocks events order f at_back in
        other_of t order distinct f.transaction there.1 (ap (λ (g : Event). g.transaction) (sym (one e f here.0 there.0 same)) ∙ here.1)

blocks_whole : (events : List Event) (order : List ℕ) → IsDistinct eqb order → AreInOnePiece (blocks events order)
blocks_whole events [] distinct = tt
blocks_whole events (t ∷ order) distinct =
    piece_append t (block t events) (blocks events order)
    (all_of_members (λ e. e.transaction ≡ t) (block t events) (λ e at_front. (in_block t events e at_front).1))
    (all_of_members (λ e. e.transaction ≡ t → ⊥) (blocks events order) (λ e at_back. other_of t order distinct e.transaction (of_blocks events order e at_back).1))
    (blocks_whole events order (IsDistinct-tail eqb t order distinct))

-- ---- Their numbers, by the transaction of each event

block_numbers : (t n : ℕ) (events : List Event) → AreNumberedFrom n events → numbers_of (block t events) ≡ events_of t n (map (λ e. e.transaction) events)
block_numbers t n [] are = refl
block_numbers t n (e ∷ events) are = by (eqb e.transaction t) (block_numbers t (suc n) events are.1)
  where
    by : (b : Bool) → numbers_of (block t events) ≡ events_of t (suc n) (map (λ f. f.transaction) events)
        → numbers_of (cond b (e ∷ block t events) (block t events)) ≡ cond b (n ∷ events_of t (suc n) (map (λ f. f.transaction) events)) (events_of t (suc n) (map (λ f. f.transaction) events))
    by true rest = ap (λ (m : ℕ). m ∷ numbers_of (block t events)) are.0 ∙ ap (λ (ns : List ℕ). n ∷ ns) rest
    by false rest = rest

blocks_numbers : (events : List Event) (order : List ℕ) → AreNumberedFrom 1 events → numbers_of (blocks events order) ≡ in_order (map (λ e. e.transaction) events) order
blocks_numbers events [] are = refl
blocks_numbers events (t ∷ order) are =
    map-append (λ (e : Event). e.number) (block t events) (blocks events order)
    ∙ ap (λ (ns : List ℕ). ns ++ numbers_of (blocks events order)) (block_numbers t 1 events are)
    ∙ ap (λ (ns : List ℕ). events_of t 1 (map (λ e. e.transaction) events) ++ ns) (blocks_numbers events order are)

-- The events of each transaction, in an order of transactions, are a rearrangement.
blocks_rearranged : (lines : Specification) (items : List Item) (order : List ℕ) → IsOrder (trace_state_of lines items).events (trace_state_of lines items).transactions order → IsRearrangement (trace_state_of lines items).events (numbers_of (blocks (trace_state_of lines items).events order))
blocks_rearranged lines items order is = (
  are_numbers (length events) (numbers_of (blocks events order)) (numbers_of events) (blocks_apart events one apart order is.0.1) within apart (length-map events (λ (e : Event). e.number)) each,
  blocks events order,
  refl,
  all_of_members (λ e. IsIn e events) (blocks events order) (λ e in_serial. (of_blocks events order e in_serial).0),
  blocks_keep events (numbered_keep 1 events counted.numbered) order is.0.1 is.1,
  blocks_whole events order is.0.1,
)
  where
    events : List Event
    events = (trace_state_of lines items).events

    counted : IsCounted (trace_state_of lines items)
    counted = trace_state_counted lines items

    one : (e f : Event) → IsIn e events → IsIn f events → e.number ≡ f.number → e ≡ f
    one e f in_e in_f same = one_of_number 1 events e f counted.numbered in_e in_f same

    apart : IsDistinct eqb (numbers_of events)
    apart = distinct_numbered 1 events counted.numbered

    within : AllByRecursion (λ k. (0 < k) × (k ≤ length events)) (numbers_of (blocks events order))
    within = all_of_members (λ k. (0 < k) × (k ≤ length events)) (numbers_of (blocks events order)) told
      where
        told : (k : ℕ) → IsIn k (numbers_of (blocks events order)) → (0 < k) × (k ≤ length events)
        told k in_numbers =
            let found = of_map (λ (e : Event). e.number) k (blocks events order) in_numbers in
            let bounds = numbered_within 1 events found.0 counted.numbered (of_blocks events order found.0 found.1).0 in
            let low = bounds.0 in let high = bounds.1 in let same = found.2 in
            (omega arith, omega arith)

    each : (k : ℕ) → IsIn k (numbers_of events) → IsIn k (numbers_of (blocks events order))
    each k in_numbers =
        let found = of_map (λ (e : Event). e.number) k events in_numbers in
        let begun = counted.begun found.0 found.1 in
        subst (λ n. IsIn n (numbers_of (blocks events order))) found.2 (in_map (λ (e : Event). e.number) found.0 (blocks events order) (in_blocks events order found.0 found.1 (each_number (trace_state_of lines items).transactions order is.0 found.0.transaction begun.0 begun.1)))

-- So the numbers in order are a serial order of any items with these transactions.
pub serial_is : (lines : Specification) (items : List Item) (transactions order : List ℕ) → IsOrderOf lines items transactions order → IsSerial (trace_state_of lines items).events (in_order transactions order)
serial_is lines items transactions order is =
    subst (IsSerial (trace_state_of lines items).events)
    (blocks_numbers (trace_state_of lines items).events order (trace_state_counted lines items).numbered ∙ ap (λ (ts : List ℕ). in_order ts order) is.of_events)
    (rearrangement_is_serial lines items (numbers_of (blocks (trace_state_of lines items).events order)) (blocks_rearranged lines items order is.is_order))
