use Rattle.std.proofs.Common.{◌≡◌, ◌+◌, ◌||◌, ℕ, List, get_or, ap, refl, subst, sym, ◌∙◌, arith}
use Rattle.std.specs.Prelude.{is_some}
use Rattle.std.specs.List.{list_any}
use Rattle.classes.specs.Hierarchy.{super_numbers}
use Rattle.classes.specs.Marks.{is_marked}
use Rattle.classes.specs.Places.{class_place, match_with_number}
use Rattle.classes.proofs.MarkingLaws.{AreUsefulBelow, stands_at, useful_more, useful_past}
use Rattle.classes.proofs.PlaceLaws.{named_at, place_is}
use Rattle.classes.proofs.ancestors.mark_useful.Goals as goal
use Rattle.classes.proofs.ancestors.mark_useful.Goals.{then-is_marked, else-is_marked}

pub loop-place-preserved : goal.loop-place-preserved
loop-place-preserved g c =
    let ranked = c.args.ranked.now in
    let gives = g.L.Look.gives c.args.look.now in
    let place = c.loop-place.place in
    let at = get_or ranked.order.now place 0 in
    let s = stands_at ranked.classes.now ranked.supers.now ranked.ranks.now ranked.order.now ranked.is_hierarchy c.args.class place c.requires.class (omega arith) in
    elim c.if-is_marked.branch [
      | then-is_marked w ↦
          subst (λ (useful : List ℕ). AreUsefulBelow ranked.classes.now ranked.supers.now ranked.ranks.now ranked.order.now ranked.is_hierarchy (match_with_number ranked.classes.now gives) c.args.reached.now (place + 1) useful) (sym w.useful-is)
          (useful_more ranked.classes.now ranked.supers.now ranked.ranks.now ranked.order.now ranked.is_hierarchy (match_with_number ranked.classes.now gives) c.args.reached.now
          c.requires.reached.above place at s.class w.is_useful-is.result c.loop-place.useful w.mark_if.new.words refl s.placed s.there (sym c.is_marked.ensures ∙ w.if-is_marked.true)
          (λ name number.
          let here : at ≡ class_place ranked.classes.now s.class = place_is ranked.classes.now name at s.class number (sym (named_at ranked.classes.now name at number) ∙ s.there) in
          w.is_useful-is.ensures s.class s.there
          ∙ ap (λ n. is_some (gives n s.class) || list_any (is_marked c.loop-place.useful) (super_numbers ranked.classes.now s.class)) here)
          w.mark_if.ensures c.loop-place.invariant)
      | else-is_marked w ↦
          subst (λ (useful : List ℕ). AreUsefulBelow ranked.classes.now ranked.supers.now ranked.ranks.now ranked.order.now ranked.is_hierarchy (match_with_number ranked.classes.now gives) c.args.reached.now (place + 1) useful) (sym w.useful-is)
          (useful_past ranked.classes.now ranked.supers.now ranked.ranks.now ranked.order.now ranked.is_hierarchy (match_with_number ranked.classes.now gives) c.args.reached.now
          place at c.loop-place.useful refl (sym c.is_marked.ensures ∙ w.if-is_marked.false) c.loop-place.invariant)
    ]
