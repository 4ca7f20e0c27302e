-- One more slot.
use Rattle.std.proofs.Common.{◌≡◌, ℕ, ◌+◌, ◌<◌, ◌++◌, ◌∷◌, [], List, length, get_or, take, sym, ap, subst, ◌∙◌, arith}
use Rattle.std.proofs.lemmas.List.{append_assoc, append-nil, take_more}
use Rattle.atom_order.specs.declared.slots.Slot.{Slot}
use Rattle.atom_order.specs.Slots.{SlotList, numbers_of, live_of}
use Rattle.atom_order.proofs.Gaps.{numbers_len, slot_read, live_append, live_one, live_gap}
use Rattle.atom_order.proofs.slots.Slots.append_live.Goals as goal
use Rattle.atom_order.proofs.slots.Slots.append_live.Goals.{then-slot-ne0+in_ok-push, else-slot-ne0}

pub loop-slot-preserved : goal.loop-slot-preserved
loop-slot-preserved c =
    let slots = c.args.self.now.slots in
    let numbers = numbers_of slots in
    let i = c.loop-slot.slot-index in
    let slot = c.slot-item.result in
    let same : c.deref-slot-items.result.now ≡ slots = c.deref-slot-items.ensures.value ∙ ap (λ (s : SlotList). s.slots) c.self.view_is in
    let less : i < length slots = subst (λ (l : List Slot). i < length l) same c.loop-slot-test.true in
    let at : get_or numbers i 0 ≡ slot.transaction = slot_read slots i slot (subst (λ (l : List Slot). slot ≡ get_or l i slot) same c.slot-item.is) less in
    let long = numbers_len slots in
    let more : live_of (take (i + 1) numbers) ≡ live_of (take i numbers) ++ live_of (slot.transaction ∷ []) =
    ap live_of (take_more numbers i 0 (omega arith) ∙ ap (λ x. take i numbers ++ x ∷ []) at) ∙ live_append (take i numbers) (slot.transaction ∷ []) in
    elim c.if-slot-ne0.branch [
      | then-slot-ne0+in_ok-push w ↦
          ap (λ l. l.items) w.list-is ∙ w.in_ok-push.ensures.items ∙ ap (λ (l : List ℕ). l ++ slot.transaction ∷ []) c.loop-slot.invariant
          ∙ append_assoc c.args.list.now.items (live_of (take i numbers)) (slot.transaction ∷ [])
          ∙ ap (λ (l : List ℕ). c.args.list.now.items ++ l) (ap (λ l. live_of (take i numbers) ++ l) (sym (live_one slot.transaction [] w.if-slot-ne0.true)) ∙ sym more)
      | else-slot-ne0 w ↦
          ap (λ l. l.items) w.list-is ∙ c.loop-slot.invariant
          ∙ ap (λ (l : List ℕ). c.args.list.now.items ++ l) (sym (more ∙ ap (λ x. live_of (take i numbers) ++ live_of (x ∷ [])) w.if-slot-ne0.false ∙ ap (λ l. live_of (take i numbers) ++ l) (live_gap []) ∙ append-nil (live_of (take i numbers))))
    ]
