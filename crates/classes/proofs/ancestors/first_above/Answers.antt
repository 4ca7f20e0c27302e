use Rattle.std.proofs.Common.{◌≡◌, ℕ, Option, None, Some, refl, sym, ap, ◌∙◌}
use Rattle.std.specs.List.{find}
use Rattle.classes.specs.Marks.{is_marked}
use Rattle.classes.specs.Places.{match_with_number}
use Rattle.classes.proofs.MarkingLaws.{row_is, stands_there}
use Rattle.classes.proofs.WayLaws.{begun, found_here, found_nowhere, next_is, next_way, next_within}
use Rattle.classes.proofs.ancestors.first_above.Goals as goal

none : (o : Option (ℕ × ℕ)) → ((x : ℕ × ℕ) → o ≡ Some x → ⊥) → o ≡ None
none None never = refl
none (Some x) never = absurd (never x refl)

pub loop-found-init : goal.loop-found-init
loop-found-init g c = record {
  within = c.requires.class;
  reached = c.requires.itself;
  way = begun c.args.ranked.now.classes.now (match_with_number c.args.ranked.now.classes.now (g.L.Look.gives c.args.look.now)) c.args.class;
}

pub returns-in-Some : goal.returns-in-Some
returns-in-Some g c =
    let ranked = c.args.ranked.now in
    let at = c.loop-found.at in
    let there = stands_there ranked.classes.now ranked.supers.now ranked.ranks.now ranked.order.now ranked.is_hierarchy at c.index-ranked-at.result c.loop-found.invariant.within c.index-ranked-at.is in
    found_here ranked.classes.now ranked.supers.now ranked.ranks.now ranked.order.now ranked.is_hierarchy (g.L.Look.gives c.args.look.now) c.args.class at c.index-ranked-at.result c.in-Some.found c.loop-found.invariant.way there
    (ap (λ d. g.L.Look.gives c.args.look.now at d) c.index-ranked-at.is ∙ sym c.look.ensures ∙ c.in-Some.is)

pub loop-found-smaller : goal.loop-found-smaller
loop-found-smaller g c =
    let ranked = c.args.ranked.now in
    let at = c.loop-found.at in
    let there = stands_there ranked.classes.now ranked.supers.now ranked.ranks.now ranked.order.now ranked.is_hierarchy at c.index-ranked-at.result c.loop-found.invariant.within c.index-ranked-at.is in
    let row = c.as_slice.ensures ∙ row_is ranked.classes.now ranked.supers.now ranked.ranks.now ranked.order.now ranked.is_hierarchy at c.index-ranked-at.result there c.index-ranked-at-in-loop-found.result in
    (next_is ranked.classes.now ranked.supers.now ranked.ranks.now ranked.order.now ranked.is_hierarchy (g.L.Look.gives c.args.look.now) c.args.reached.now c.args.useful.now c.requires.closed c.requires.useful at c.in-Some-first_marked.next c.index-ranked-at.result there c.loop-found.invariant.reached
    (ap (find (is_marked c.args.useful.now)) (sym row) ∙ sym c.first_marked.ensures ∙ c.in-Some-first_marked.is)).1

pub loop-found-preserved : goal.loop-found-preserved
loop-found-preserved g c =
    let ranked = c.args.ranked.now in
    let gives = g.L.Look.gives c.args.look.now in
    let at = c.loop-found.at in
    let class = c.index-ranked-at.result in
    let there = stands_there ranked.classes.now ranked.supers.now ranked.ranks.now ranked.order.now ranked.is_hierarchy at class c.loop-found.invariant.within c.index-ranked-at.is in
    let row = c.as_slice.ensures ∙ row_is ranked.classes.now ranked.supers.now ranked.ranks.now ranked.order.now ranked.is_hierarchy at class there c.index-ranked-at-in-loop-found.result in
    let found = ap (find (is_marked c.args.useful.now)) (sym row) ∙ sym c.first_marked.ensures ∙ c.in-Some-first_marked.is in
    record {
      within = next_within ranked.classes.now ranked.supers.now ranked.ranks.now ranked.order.now ranked.is_hierarchy gives c.args.reached.now c.args.useful.now c.requires.closed c.requires.useful at c.in-Some-first_marked.next class there c.loop-found.invariant.reached found;
      reached = (next_is ranked.classes.now ranked.supers.now ranked.ranks.now ranked.order.now ranked.is_hierarchy gives c.args.reached.now c.args.useful.now c.requires.closed c.requires.useful at c.in-Some-first_marked.next class there c.loop-found.invariant.reached found).0;
      way =
          next_way ranked.classes.now ranked.supers.now ranked.ranks.now ranked.order.now ranked.is_hierarchy gives c.args.reached.now c.args.useful.now c.requires.closed c.requires.useful c.args.class at c.in-Some-first_marked.next class c.loop-found.invariant.way there c.loop-found.invariant.reached
          (ap (λ d. gives at d) c.index-ranked-at.is ∙ sym c.look.ensures ∙ none c.look.result c.in_default.not-Some) found;
    }

pub returns-in-None : goal.returns-in-None
returns-in-None g c =
    let ranked = c.args.ranked.now in
    let gives = g.L.Look.gives c.args.look.now in
    let at = c.loop-found.at in
    let class = c.index-ranked-at.result in
    let there = stands_there ranked.classes.now ranked.supers.now ranked.ranks.now ranked.order.now ranked.is_hierarchy at class c.loop-found.invariant.within c.index-ranked-at.is in
    let row = c.as_slice.ensures ∙ row_is ranked.classes.now ranked.supers.now ranked.ranks.now ranked.order.now ranked.is_hierarchy at class there c.index-ranked-at-in-loop-found.result in
    found_nowhere ranked.classes.now ranked.supers.now ranked.ranks.now ranked.order.now ranked.is_hierarchy gives c.args.reached.now c.args.useful.now c.requires.closed c.requires.useful c.args.class at class c.loop-found.invariant.way there c.loop-found.invariant.reached
    (ap (λ d. gives at d) c.index-ranked-at.is ∙ sym c.look.ensures ∙ none c.look.result c.in_default.not-Some)
    (ap (find (is_marked c.args.useful.now)) (sym row) ∙ sym c.first_marked.ensures ∙ c.in-None.is)
