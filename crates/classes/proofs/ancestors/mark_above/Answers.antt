use Rattle.std.proofs.Common.{◌≡◌, ◌+◌, ◌-◌, ◌*◌, ◌||◌, length, get_or, ap, refl, subst, sym, ◌∙◌, arith}
use Rattle.classes.specs.Marks.{is_in, is_marked}
use Rattle.classes.proofs.MarkingLaws.{AreMarkedFrom, all_marked, marked_first, marked_more, marked_past, row_fits, row_is, stands_at}
use Rattle.classes.proofs.ancestors.mark_above.Goals as goal

pub loop-left-init : goal.loop-left-init
loop-left-init c =
    let ranked = c.args.ranked.now in
    record {
      within = omega arith;
      marked =
          subst (λ k. AreMarkedFrom ranked.classes.now ranked.supers.now ranked.ranks.now ranked.order.now ranked.is_hierarchy c.args.class (k + 1) c.mark.new.words) (sym c.rank-left.ensures)
          (marked_first ranked.classes.now ranked.supers.now ranked.ranks.now ranked.order.now ranked.is_hierarchy c.args.class c.args.reached.now c.mark.new.words c.requires.none c.mark.ensures);
    }

pub mark_all-requires : goal.mark_all-requires
mark_all-requires c =
    let ranked = c.args.ranked.now in
    let at = get_or ranked.order.now (c.loop-left.left - 1) 0 in
    let s = stands_at ranked.classes.now ranked.supers.now ranked.ranks.now ranked.order.now ranked.is_hierarchy c.args.class (c.loop-left.left - 1) c.requires.class (omega arith) in
    row_fits ranked.classes.now ranked.supers.now ranked.ranks.now ranked.order.now ranked.is_hierarchy (c.loop-left.left - 1) at s c.as_slice.result.now (64 * length c.loop-left.reached)
    (c.as_slice.ensures ∙ row_is ranked.classes.now ranked.supers.now ranked.ranks.now ranked.order.now ranked.is_hierarchy at s.class s.there c.index-ranked-at.result)
    (omega arith)

pub loop-left-preserved-then-is_marked : goal.loop-left-preserved-then-is_marked
loop-left-preserved-then-is_marked c =
    let ranked = c.args.ranked.now in
    let at = get_or ranked.order.now (c.loop-left.left - 1) 0 in
    let s = stands_at ranked.classes.now ranked.supers.now ranked.ranks.now ranked.order.now ranked.is_hierarchy c.args.class (c.loop-left.left - 1) c.requires.class (omega arith) in
    let row = c.as_slice.ensures ∙ row_is ranked.classes.now ranked.supers.now ranked.ranks.now ranked.order.now ranked.is_hierarchy at s.class s.there c.index-ranked-at.result in
    record {
      within = omega arith;
      marked =
          marked_more ranked.classes.now ranked.supers.now ranked.ranks.now ranked.order.now ranked.is_hierarchy c.args.class c.loop-left.left at s.class c.loop-left.reached c.mark_all.new.words
          (omega arith) c.loop-left.invariant.within s.placed refl s.there
          (λ n. c.mark_all.ensures n ∙ ap (λ ns. is_in ns n || is_marked c.loop-left.reached n) row)
          c.loop-left.invariant.marked;
    }

pub loop-left-preserved : goal.loop-left-preserved
loop-left-preserved c =
    let ranked = c.args.ranked.now in
    let at = get_or ranked.order.now (c.loop-left.left - 1) 0 in
    let s = stands_at ranked.classes.now ranked.supers.now ranked.ranks.now ranked.order.now ranked.is_hierarchy c.args.class (c.loop-left.left - 1) c.requires.class (omega arith) in
    record {
      within = omega arith;
      marked =
          marked_past ranked.classes.now ranked.supers.now ranked.ranks.now ranked.order.now ranked.is_hierarchy c.args.class c.loop-left.left at c.loop-left.reached
          (omega arith) s.placed refl (sym c.is_marked.ensures ∙ c.if-is_marked.false) c.loop-left.invariant.marked;
    }

pub returns : goal.returns
returns c =
    let ranked = c.args.ranked.now in
    let done : c.loop-left.left ≡ 0 = omega arith in
    all_marked ranked.classes.now ranked.supers.now ranked.ranks.now ranked.order.now ranked.is_hierarchy c.args.class c.loop-left.reached
    (subst (λ k. AreMarkedFrom ranked.classes.now ranked.supers.now ranked.ranks.now ranked.order.now ranked.is_hierarchy c.args.class k c.loop-left.reached) done c.loop-left.invariant.marked)
