use Rattle.std.proofs.Common.{◌+◌, ap, sym, ◌∙◌, ◌≡◌, subst}
use Rattle.std.specs.Prelude.{get_or}
use Rattle.std.proofs.lemmas.List.MinMax.{IsFirstBest-keeps, IsFirstBest-none, IsFirstBest-takes}
use Rattle.std.specs.List.{IsFirstBest}
use Rattle.exploration_joins.proofs.Orders.{part_is_sooner, parts_order}
use Rattle.exploration_joins.proofs.order.first_failing.Goals as goal

pub loop-place-init : goal.loop-place-init
loop-place-init c = IsFirstBest-none (parts_order c.args.levels) c.args.parts.now

pub loop-place-preserved : goal.loop-place-preserved
loop-place-preserved c =
    let o = parts_order c.args.levels in
    let xs = c.args.parts.now in
    let i = c.loop-place.place in
    let b = c.loop-place.first in
    let P = IsFirstBest (part_is_sooner c.args.levels) xs (i + 1) in
    let x = c.index-parts-place.result in
    let y = c.index-parts-first.result in
    let sooner : part_is_sooner c.args.levels x y ≡ part_is_sooner c.args.levels (get_or xs i x) (get_or xs b y) =
    ap (λ one. part_is_sooner c.args.levels one y) c.index-parts-place.is ∙ ap (λ other. part_is_sooner c.args.levels (get_or xs i x) other) c.index-parts-first.is
    in
    elim c.if-is_sooner.branch [
      | goal.then-is_sooner w ↦ subst P (sym w.first-is) (IsFirstBest-takes o xs i b x y c.loop-place.invariant c.loop-place-test.true c.index-parts-place.is c.index-parts-first.is (sooner ∙ sym c.is_sooner.ensures ∙ w.if-is_sooner.true))
      | goal.else-is_sooner w ↦ subst P (sym w.first-is) (IsFirstBest-keeps o xs i b x y c.loop-place.invariant c.loop-place-test.true c.index-parts-place.is c.index-parts-first.is (sooner ∙ sym c.is_sooner.ensures ∙ w.if-is_sooner.false))
    ]
