-- One more list of links.
use Rattle.std.proofs.Common.{◌+◌, ◌++◌, ◌∷◌, [], List, length, sym, ap, subst₂, ◌∙◌}
use Rattle.std.proofs.lemmas.List.{length_push}
use Rattle.atom_order.specs.declared.link.Link.{Link}
use Rattle.atom_order.specs.declared.slots.Slot.{Slot}
use Rattle.atom_order.specs.Exits.{AreLinked}
use Rattle.atom_order.proofs.Stored.{skipped_linked}
use Rattle.atom_order.proofs.linked_order.LinkedOrder.skip.Goals as goal

pub invariant_of-self-2 : goal.invariant_of-self-2
invariant_of-self-2 c =
    let into = c.self.inside.into.items in
    let links = c.args.links.items in
    let now = c.push_reserved.ensures.items ∙ ap (λ (l : List (List Link)). l ++ c.from_vec.result ∷ []) c.reserve.ensures.items ∙ ap (λ (l : List Link). into ++ l ∷ []) c.from_vec.ensures in (
      c.in_ok-skip.ensures.next ∙ ap (λ n. n + 1) c.self.invariant.0 ∙ sym (length_push into links) ∙ ap (λ (l : List (List Link)). length l) (sym now),
      subst₂ (λ (s : List Slot) (i : List (List Link)). AreLinked s i) (sym c.skip.ensures.slots) (sym now)
          (skipped_linked c.self.inside.slots.slots into links c.self.invariant.1),
    )
