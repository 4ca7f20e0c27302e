-- One more rank is recorded.
use Rattle.std.proofs.Common.{◌≡◌, ◌<◌, inl, inr, length, get_or, set, subst, sym, ap, ◌∙◌, arith}
use Rattle.std.proofs.lemmas.Bool.{cases_eq}
use Rattle.std.proofs.lemmas.List.{get_or-set_same, get_or-set_other, length-set, get_or-map}
use Rattle.atom_order.specs.declared.slots.Slot.{Slot}
use Rattle.atom_order.specs.Slots.{numbers_of}
use Rattle.atom_order.proofs.slots.note_ranks.Goals as goal

pub index_mut-requires : goal.index_mut-requires
index_mut-requires c =
    let slots = c.args.slots.now in
    let i = c.loop-i.i in
    let less : i < length slots = c.loop-i-test.true in
    let here : get_or (numbers_of slots) i 0 ≡ (get_or slots i c.index-slots-i.result).transaction = get_or-map (λ (s : Slot). s.transaction) slots i c.index-slots-i.result 0 less in
    let known : get_or (numbers_of slots) i 0 < length c.args.ranks.now.items = c.requires.known i less in
    let long = c.loop-i.invariant.long in
    let ok = c.loop-i.ranks.ok.0 in
    subst (λ n. n < c.loop-i.ranks.len) here (omega arith)

pub loop-i-preserved : goal.loop-i-preserved
loop-i-preserved c =
    let slots = c.args.slots.now in
    let numbers = numbers_of slots in
    let ranks = c.loop-i.ranks.items in
    let i = c.loop-i.i in
    let less : i < length slots = c.loop-i-test.true in
    let x = (get_or slots i c.index-slots-i.result).transaction in
    let here : get_or numbers i 0 ≡ x = get_or-map (λ (s : Slot). s.transaction) slots i c.index-slots-i.result 0 less in
    let old : get_or numbers i 0 < length c.args.ranks.now.items = c.requires.known i less in
    let long = c.loop-i.invariant.long in
    let known : x < length ranks = subst (λ v. v < length ranks) here (omega arith) in
    record {
      long = length-set ranks x i ∙ c.loop-i.invariant.long;
      noted = λ k low. elim (cases_eq k i) [
        | inl same ↦ ap (λ j. get_or (set ranks x i) (get_or numbers j 0) 0) same ∙ ap (λ v. get_or (set ranks x i) v 0) here ∙ get_or-set_same ranks x i 0 known ∙ sym same
        | inr other ↦
            let before : k < i = omega arith in
            get_or-set_other ranks x (get_or numbers k 0) i 0 (λ same. c.requires.apart k i before less (same ∙ sym here)) ∙ c.loop-i.invariant.noted k before
      ];
    }
