use Rattle.std.proofs.Common.{◌≡◌, ℕ, ◌+◌, ◌-◌, ◌<◌, ◌^◌, List, false, length, get_or, min, refl, sym, ap, ◌∙◌, subst, arith}
use Rattle.jvms_program.specs.declared.program.Class.{Class}
use Rattle.classes.specs.Slots.{AreCountable, AreTotals, count_of, total_above}
use Rattle.classes.proofs.HierarchyLaws.{count}
use Rattle.classes.proofs.MarkingLaws.{stands_there}
use Rattle.classes.proofs.StartLaws.{all_totals, one_total}
use Rattle.classes.proofs.slot_starts.totals_of.Goals as goal

pub loop-place-preserved : goal.loop-place-preserved
loop-place-preserved c =
    let ranked = c.ranked-ranked.result in
    let program = ranked.classes.now in
    let place = c.loop-place.place in
    let at = get_or ranked.order.now place 0 in
    let class = c.index-ranked-at.result in
    let old = c.loop-place.totals.items in
    let found = ranked.is_hierarchy.found.found place (omega arith) in
    let within : at < length program = (let there = found.0 in let same = count program ranked.supers.now ranked.ranks.now ranked.order.now ranked.is_hierarchy in omega arith) in
    let above : c.total_above-above.result ≡ total_above program old class.superclass =
    c.total_above-above.ensures
    ∙ ap (λ (d : Class). total_above c.args.program.now c.as_slice.result.now d.superclass) (sym c.index-ranked-at.is)
    ∙ ap (λ (p : List Class). total_above p c.as_slice.result.now class.superclass) (sym c.ranked-ranked.ensures)
    ∙ ap (λ (ts : List ℕ). total_above program ts class.superclass) c.as_slice.ensures.value in
    one_total program ranked.supers.now ranked.ranks.now ranked.order.now ranked.is_hierarchy (subst AreCountable (sym c.ranked-ranked.ensures) c.countable_invariant.ensures)
    place at c.saturating_add.result class old _ refl found.1
    (stands_there program ranked.supers.now ranked.ranks.now ranked.order.now ranked.is_hierarchy at class within c.index-ranked-at.is)
    (c.saturating_add.ensures
    ∙ ap (λ (n : ℕ). min (n + c.count_of.result) (2 ^ 64 - 1)) above
    ∙ ap (λ (n : ℕ). min (total_above program old class.superclass + n) (2 ^ 64 - 1)) (c.count_of.ensures.exact ∙ ap (count_of false) (sym c.index-ranked-at.is)))
    refl c.loop-place.invariant

pub returns : goal.returns
returns c =
    let ranked = c.ranked-ranked.result in
    subst (λ (p : List Class). AreTotals p c.loop-place.totals.items) c.ranked-ranked.ensures
    (all_totals ranked.classes.now ranked.supers.now ranked.ranks.now ranked.order.now ranked.is_hierarchy (subst AreCountable (sym c.ranked-ranked.ensures) c.countable_invariant.ensures)
    c.loop-place.place c.loop-place.totals.items (omega arith) c.loop-place.invariant)
