-- If each edge leads to a higher rank, no transactions are a cycle.
use Rattle.std.proofs.Common.{◌≡◌, ℕ, suc, ◌<◌, true, false, cond, eqb, List, [], ◌∷◌, length, inl, inr, ⊎_elim, refl, sym, ap, ◌∙◌, subst, arith, lt_trans}
use Rattle.std.proofs.lemmas.Bool.{cases_eq}
use Rattle.std.proofs.lemmas.Bool.Decides.{nat_tests}
use Rattle.jvms_machine.specs.declared.trace.Item.{Item}
use Rattle.velodrome.specs.Cycles.{AreAtomic, AreEdgesRound, IsBefore, IsCycle, IsEdge, IsIn}
use Rattle.velodrome.specs.Orders.{IsOrder, NoneLeadsBack}
use Rattle.velodrome.specs.Rearrangements.{AreInOnePiece, IsRearrangement, KeepsConflicts}
use Rattle.velodrome.specs.Specification.{Specification}
use Rattle.velodrome.specs.Transactions.{Event, trace_state_of}
use Rattle.serial_order.proofs.Members.{all_in, of_map}
use Rattle.serial_order.proofs.Counts.{each_number}
use Rattle.serial_order.proofs.TraceStates.{IsCounted, numbered_within, one_of_number, trace_state_counted}

-- Each edge leads to a higher rank.
abbrev pub Rises : List Event → (ℕ → ℕ) → Type 0
Rises events rank = (a b : ℕ) → IsEdge events a b → rank a < rank b

rises_round : (events : List Event) (rank : ℕ → ℕ) (first a : ℕ) (transactions : List ℕ) → Rises events rank → AreEdgesRound events first (a ∷ transactions) → rank a < rank first
rises_round events rank first a [] rises round = rises a first round
rises_round events rank first a (b ∷ transactions) rises round = lt_trans (rises a b round.0) (rises_round events rank first b transactions rises round.1)

pub no_cycle : (events : List Event) (rank : ℕ → ℕ) → Rises events rank → (transactions : List ℕ) → IsCycle events transactions → ⊥
no_cycle events rank rises [] cycle = cycle
no_cycle events rank rises (a ∷ transactions) cycle = let less = rises_round events rank a a transactions rises cycle.2 in omega arith

-- ---- The place of a transaction in an order

pub place : List ℕ → ℕ → ℕ
place [] a = 0
place (o ∷ order) a = cond (eqb o a) 0 (suc (place order a))

place_rises : (events : List Event) (order : List ℕ) (a b : ℕ) → NoneLeadsBack events order → IsIn a order → IsIn b order → IsEdge events a b → place order a < place order b
unfolding place
place_rises events [] a b none in_a in_b edge = absurd in_a
place_rises events (o ∷ order) a b none in_a in_b edge = ⊎_elim
    (λ is_a. let yes : eqb o a ≡ true = grind (arith, nat_tests) in let apart : a ≡ b → ⊥ = edge.0 in let no : eqb o b ≡ false = grind (arith, nat_tests) in rw (yes, no) (omega arith))
    (λ not_a. let no : eqb o a ≡ false = grind (arith, nat_tests) in ⊎_elim
    (λ is_b. absurd (all_in (λ c. IsEdge events c o → ⊥) order a none.0 (later a not_a in_a) (subst (λ c. IsEdge events a c) (sym is_b) edge)))
    (λ not_b. let also : eqb o b ≡ false = grind (arith, nat_tests) in let more = place_rises events order a b none.1 (later a not_a in_a) (later b not_b in_b) edge in rw (no, also) (omega arith))
    (cases_eq o b))
    (cases_eq o a)
  where
    later : (c : ℕ) → (o ≡ c → ⊥) → IsIn c (o ∷ order) → IsIn c order
    later c other (inl same) = absurd (other (sym same))
    later c other (inr more) = more

-- If transactions have an order, none are a cycle.
pub order_leaves_no_cycle : (lines : Specification) (items : List Item) (order : List ℕ) → IsOrder (trace_state_of lines items).events (trace_state_of lines items).transactions order → AreAtomic (trace_state_of lines items).events
order_leaves_no_cycle lines items order is transactions cycle = no_cycle (trace_state_of lines items).events (place order) rises transactions cycle
  where
    counted : IsCounted (trace_state_of lines items)
    counted = trace_state_counted lines items

    placed : (e : Event) (a : ℕ) → IsIn e (trace_state_of lines items).events → e.transaction ≡ a → IsIn a order
    placed e a in_events same = let begun = counted.begun e in_events in subst (λ c. IsIn c order) same (each_number (trace_state_of lines items).transactions order is.0 e.transaction begun.0 begun.1)

    rises : Rises (trace_state_of lines items).events (place order)
    rises a b edge = place_rises (trace_state_of lines items).events order a b is.1 (placed edge.1 a edge.3.0 edge.3.2) (placed edge.2 b edge.3.1 edge.3.3) edge

-- ---- The first event of a transaction in a rearrangement

pub begins : List Event → ℕ → ℕ
begins [] a = 0
begins (e ∷ serial) a = cond (eqb e.transaction a) 0 (suc (begins serial a))

-- Once left, a transaction doesn't come back. So no event of another transaction can come between two of its events.
comes_back : (t : ℕ) (g e f : Event) (serial : List Event) → AreInOnePiece (g ∷ serial) → KeepsConflicts serial → g.transaction ≡ t → f.transaction ≡ t → (e.transaction ≡ t → ⊥) → IsIn e serial → IsIn f serial → IsBefore e f → ⊥
comes_back t g e f [] piece keeps of_g of_f other in_e in_f before = in_e
comes_back t g e f (h ∷ serial) piece keeps of_g of_f other in_e in_f before = ⊎_elim
    (λ stays. stays_in (λ more also. comes_back t h e f serial piece.1 keeps.1 stays of_f other more also before) stays in_e in_f)
    (λ leaves. left leaves in_f)
    (cases_eq h.transaction t)
  where
    left : (h.transaction ≡ t → ⊥) → IsIn f (h ∷ serial) → ⊥
    left leaves (inl same) = leaves (sym (ap (λ (x : Event). x.transaction) same) ∙ of_f)
    left leaves (inr more) = all_in (λ x. x.transaction ≡ g.transaction → ⊥) serial f (piece.0 (λ same. leaves (same ∙ of_g))) more (of_f ∙ sym of_g)

    stays_in : (IsIn e serial → IsIn f serial → ⊥) → h.transaction ≡ t → IsIn e (h ∷ serial) → IsIn f (h ∷ serial) → ⊥
    stays_in behind stays (inl same) in_f = other (ap (λ (x : Event). x.transaction) same ∙ stays)
    stays_in behind stays (inr more) (inl same) = all_in (λ x. IsBefore x h → ⊥) serial e keeps.0 more (subst (λ (x : Event). IsBefore e x) same before)
    stays_in behind stays (inr more) (inr also) = behind more also

begins_rises : (serial : List Event) (e f : Event) → AreInOnePiece serial → KeepsConflicts serial → (e.transaction ≡ f.transaction → ⊥) → IsIn e serial → IsIn f serial → IsBefore e f → begins serial e.transaction < begins serial f.transaction
unfolding begins
begins_rises [] e f piece keeps apart in_e in_f before = absurd in_e
begins_rises (g ∷ serial) e f piece keeps apart in_e in_f before = ⊎_elim
    (λ is_e. let yes : eqb g.transaction e.transaction ≡ true = grind (arith, nat_tests) in let no : eqb g.transaction f.transaction ≡ false = grind (arith, nat_tests) in rw (yes, no) (omega arith))
    (λ not_e. let no : eqb g.transaction e.transaction ≡ false = grind (arith, nat_tests) in ⊎_elim
    (λ is_f. absurd (behind is_f (later e not_e in_e) in_f))
    (λ not_f. let also : eqb g.transaction f.transaction ≡ false = grind (arith, nat_tests) in let more = begins_rises serial e f (piece_tail serial piece) keeps.1 apart (later e not_e in_e) (later f not_f in_f) before in rw (no, also) (omega arith))
    (cases_eq g.transaction f.transaction))
    (cases_eq g.transaction e.transaction)
  where
    piece_tail : (rest : List Event) → AreInOnePiece (g ∷ rest) → AreInOnePiece rest
    piece_tail [] whole = tt
    piece_tail (h ∷ rest) whole = whole.1

    later : (x : Event) → (g.transaction ≡ x.transaction → ⊥) → IsIn x (g ∷ serial) → IsIn x serial
    later x other (inl same) = absurd (other (sym (ap (λ (y : Event). y.transaction) same)))
    later x other (inr more) = more

    behind : g.transaction ≡ f.transaction → IsIn e serial → IsIn f (g ∷ serial) → ⊥
    behind is_f more (inl same) = all_in (λ x. IsBefore x g → ⊥) serial e keeps.0 more (subst (λ (x : Event). IsBefore e x) same before)
    behind is_f more (inr also) = comes_back f.transaction g e f serial piece keeps.1 is_f refl apart more also before

-- Each event of a trace is in its rearrangement.
pub stands_in : (lines : Specification) (items : List Item) (numbers : List ℕ) → (r : IsRearrangement (trace_state_of lines items).events numbers) → (e : Event) → IsIn e (trace_state_of lines items).events → IsIn e r.1
stands_in lines items numbers r e in_events =
    let counted = trace_state_counted lines items in
    let within = numbered_within 1 (trace_state_of lines items).events e counted.numbered in_events in
    let low = within.0 in
    let high = within.1 in
    let told = each_number (length (trace_state_of lines items).events) numbers r.0 e.number (omega arith) (omega arith) in
    let found = of_map (λ (f : Event). f.number) e.number r.1 (subst (λ xs. IsIn e.number xs) (sym r.2) told) in
    let same = one_of_number 1 (trace_state_of lines items).events found.0 e counted.numbered (all_in (λ f. IsIn f (trace_state_of lines items).events) r.1 found.0 r.3 found.1) in_events found.2 in
    subst (λ (f : Event). IsIn f r.1) same found.1

-- If transactions are a cycle, there is no rearrangement.
pub cycle_has_no_rearrangement : (lines : Specification) (items : List Item) (transactions numbers : List ℕ) → IsCycle (trace_state_of lines items).events transactions → IsRearrangement (trace_state_of lines items).events numbers → ⊥
cycle_has_no_rearrangement lines items transactions numbers cycle r = no_cycle (trace_state_of lines items).events (begins r.1) rises transactions cycle
  where
    rises : Rises (trace_state_of lines items).events (begins r.1)
    rises a b edge = subst (λ c. begins r.1 c < begins r.1 b) edge.3.2 (subst (λ c. begins r.1 edge.1.transaction < begins r.1 c) edge.3.3 (begins_rises r.1 edge.1 edge.2 r.5 r.4 (λ same. edge.0 (sym edge.3.2 ∙ same ∙ edge.3.3)) (stands_in lines items numbers r edge.1 edge.3.0) (stands_in lines items numbers r edge.2 edge.3.1) edge.3.4))
