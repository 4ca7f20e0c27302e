use Rattle.std.proofs.Common.{◌<◌, length, false, ltb, ltb-true, ltb-false, ap, ◌∙◌, sym, arith, rules}
use Rattle.std.proofs.lemmas.List.Sorted.{IsPartitionPoint-from_clause, IsPartitionedBy-ltb}
use Rattle.debugger.specs.declared.breakpoints.Slot.{Slot}
use Rattle.std.proofs.lemmas.Bool.{and_from, and_parts, both_ways, eq-eqb, eqb-true, not-true, not_from_false}
use Rattle.std.proofs.lemmas.List.{get_or_default}
use Rattle.debugger.proofs.BreakpointLaws.{not_found, ordered}
use Rattle.debugger.proofs.breakpoints.find.Goals as goal

-- A slot to read past the end.
abbrev no_slot : Slot
no_slot = record { breakpoint = record { number = 0; method = record { class = 0; method = 0 }; instruction = 0 }; is_deleted = false }

pub returns-then-i-slots : goal.returns-then-i-slots
returns-then-i-slots c =
    let parted = IsPartitionedBy-ltb (λ (s : Slot). s.breakpoint.number) c.args.slots.now c.args.k (ordered 0 c.requires.0 c.args.slots.now c.requires.1) in
    let point = IsPartitionPoint-from_clause (λ (s : Slot). ltb s.breakpoint.number c.args.k) _ _ c.partition_point-i.ensures.partitioned parted (λ a r q h. search rules) in
    let none = c.if-i-slots.true in
    not_found c.args.k 0 c.requires.0 c.args.slots.now c.partition_point-i.result c.requires.1 (λ j d below. ltb-true _ _ (point.0 j d (omega arith) below)) (λ j d up within. ltb-false _ _ (point.1 j d up within))
    (λ within. let no : ⊥ = omega (arith, none) in absurd no)

pub returns-then-is_slot_of : goal.returns-then-is_slot_of
returns-then-is_slot_of c =
    let k = c.args.k in
    let slots = c.args.slots.now in
    let at = c.partition_point-i.result in
    let parted = IsPartitionedBy-ltb (λ (s : Slot). s.breakpoint.number) slots k (ordered 0 c.requires.0 slots c.requires.1) in
    let point = IsPartitionPoint-from_clause (λ (s : Slot). ltb s.breakpoint.number k) _ _ c.partition_point-i.ensures.partitioned parted (λ a r q h. search rules) in
    let within : at < length slots = omega (arith, c.partition_point-i.ensures.bound, c.if-i-slots.false) in
    let is = and_parts _ _ (sym c.if-is_slot_of.ensures) in
    record {
      within = within;
      before = λ j d below. ltb-true _ _ (point.0 j d (omega arith) below);
      number = λ d. ap (λ (s : Slot). s.breakpoint.number) (get_or_default slots at d no_slot within) ∙ eqb-true _ _ is.0;
      stays = λ d. ap (λ (s : Slot). s.is_deleted) (get_or_default slots at d no_slot within) ∙ not-true _ is.1;
    }

pub returns-else-is_slot_of : goal.returns-else-is_slot_of
returns-else-is_slot_of c =
    let k = c.args.k in
    let slots = c.args.slots.now in
    let at = c.partition_point-i.result in
    let parted = IsPartitionedBy-ltb (λ (s : Slot). s.breakpoint.number) slots k (ordered 0 c.requires.0 slots c.requires.1) in
    let point = IsPartitionPoint-from_clause (λ (s : Slot). ltb s.breakpoint.number k) _ _ c.partition_point-i.ensures.partitioned parted (λ a r q h. search rules) in
    not_found k 0 c.requires.0 slots at c.requires.1 (λ j d below. ltb-true _ _ (point.0 j d (omega arith) below)) (λ j d up within. ltb-false _ _ (point.1 j d up within))
    (λ within d stays same. both_ways _ (sym c.if-is_slot_of.ensures)
    (and_from _ _ (eq-eqb _ _ (ap (λ (s : Slot). s.breakpoint.number) (get_or_default slots at no_slot d within) ∙ same)) (not_from_false _ (ap (λ (s : Slot). s.is_deleted) (get_or_default slots at no_slot d within) ∙ stays))))
