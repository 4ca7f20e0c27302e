-- One more slot, and one more list of links.
use Rattle.std.proofs.Common.{◌≡◌, ℕ, ◌+◌, ◌++◌, ◌∷◌, [], List, length, sym, ap, subst, subst₂, ◌∙◌, arith}
use Rattle.std.proofs.lemmas.Grind.{common_steps}
use Rattle.std.proofs.lemmas.List.{length_push}
use Rattle.atom_order.specs.declared.link.Link.{Link}
use Rattle.atom_order.specs.declared.slots.Slot.{Slot}
use Rattle.atom_order.specs.Exits.{AreLinked, AreNoted}
use Rattle.atom_order.specs.LinkedOrder.{Ranked}
use Rattle.atom_order.specs.Slots.{gap, numbers_of, live_of}
use Rattle.atom_order.proofs.Stored.{more_linked, pushed_linked, lives, lives_new}
use Rattle.atom_order.proofs.linked_order.LinkedOrder.push.Goals as goal

pub invariant_of-self-in_err-note_exits : goal.invariant_of-self-in_err-note_exits
invariant_of-self-in_err-note_exits c = (
  c.note_exits.ensures.next ∙ c.self.invariant.0 ∙ ap (λ (l : List (List Link)). length l) (sym c.reserve.ensures.items),
  subst (λ (l : List (List Link)). AreLinked c.note_exits.new.slots.slots l) (sym c.reserve.ensures.items)
      (more_linked c.self.inside.slots.slots c.note_exits.new.slots.slots c.note_exits.ensures.more c.self.inside.into.items c.self.invariant.1),
)

pub invariant_of-self-in_err-push : goal.invariant_of-self-in_err-push
invariant_of-self-in_err-push c = (
  c.in_err-push.ensures.err_next ∙ c.note_exits.ensures.next ∙ c.self.invariant.0 ∙ ap (λ (l : List (List Link)). length l) (sym c.reserve.ensures.items),
  subst₂ (λ (s : List Slot) (l : List (List Link)). AreLinked s l) (sym c.in_err-push.ensures.err_slots) (sym c.reserve.ensures.items)
      (more_linked c.self.inside.slots.slots c.note_exits.new.slots.slots c.note_exits.ensures.more c.self.inside.into.items c.self.invariant.1),
)

pub invariant_of-self-2 : goal.invariant_of-self-2
invariant_of-self-2 c =
    let into = c.self.inside.into.items in
    let links = c.args.links.items in
    let n : c.note_exits.new.slots.next ≡ length into = c.note_exits.ensures.next ∙ c.self.invariant.0 in
    let t : c.len-transaction.result ≡ length into = grind (arith, common_steps) in
    let noted : AreNoted (length into) 0 links c.note_exits.new.slots.slots =
    subst₂ (λ (m : ℕ) (l : List Link). AreNoted m 0 l c.note_exits.new.slots.slots) t c.as_slice.ensures.value c.in_ok-note_exits.ensures.noted in
    let now = c.push_reserved.ensures.items ∙ ap (λ (l : List (List Link)). l ++ c.from_vec.result ∷ []) c.reserve.ensures.items ∙ ap (λ (l : List Link). into ++ l ∷ []) c.from_vec.ensures in (
      c.in_ok-push.ensures.next ∙ ap (λ m. m + 1) n ∙ sym (length_push into links) ∙ ap (λ (l : List (List Link)). length l) (sym now),
      subst₂ (λ (s : List Slot) (i : List (List Link)). AreLinked s i)
          (sym (c.in_ok-push.ensures.slots ∙ ap (λ m. c.note_exits.new.slots.slots ++ record gap { transaction = m } ∷ []) n)) (sym now)
          (pushed_linked c.self.inside.slots.slots c.note_exits.new.slots.slots into links c.self.invariant.1 c.note_exits.ensures.more noted),
    )

pub returns-clause-live : goal.returns-clause-live
returns-clause-live c =
    let into = c.self.inside.into.items in
    let links = c.args.links.items in
    let noted_slots = c.note_exits.new.slots.slots in
    let n : c.note_exits.new.slots.next ≡ length into = c.note_exits.ensures.next ∙ c.self.invariant.0 in
    let t : c.len-transaction.result ≡ length into = grind (arith, common_steps) in
    let noted : AreNoted (length into) 0 links noted_slots = subst₂ (λ (m : ℕ) (l : List Link). AreNoted m 0 l noted_slots) t c.as_slice.ensures.value c.in_ok-note_exits.ensures.noted in
    subst (λ (o : Ranked). live_of (numbers_of c.push.new.self.slots) ≡ live_of o.slots ++ length o.into ∷ []) c.self.view_is
    (ap (λ (s : List Slot). lives s) (c.in_ok-push.ensures.slots ∙ ap (λ m. noted_slots ++ record gap { transaction = m } ∷ []) n)
    ∙ lives_new c.self.inside.slots.slots noted_slots into links c.self.invariant.1 c.note_exits.ensures.more noted
    ∙ ap (λ (xs : List ℕ). live_of xs ++ length into ∷ []) c.note_exits.ensures.more.numbers)
