use Rattle.std.proofs.Common.{sym, ◌∙◌}
use Rattle.exploration_joins.proofs.Fails.{ok_covered, ok_found}
use Rattle.exploration_joins.proofs.joining.found_by.Goals as goal

pub returns-then-fails_below : goal.returns-then-fails_below
returns-then-fails_below c =
    ok_found c.args.parts.now c.args.levels c.first_failing-place.result c.index-parts-place.result c.index-parts-place.is c.first_failing-place.ensures c.copied.result
    (sym c.fails_below.ensures ∙ c.if-fails_below.true) c.copied.ensures

pub returns : goal.returns
returns c =
    ok_covered c.args.parts.now c.args.levels c.first_failing-place.result c.index-parts-place.result c.index-parts-place.is c.first_failing-place.ensures c.covered_by.result
    (sym c.fails_below.ensures ∙ c.if-fails_below.false) c.covered_by.ensures
