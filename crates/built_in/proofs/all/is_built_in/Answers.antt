use Rattle.std.proofs.Common.{◌||◌, ◌∙◌, sym, ap}
use Rattle.built_in.proofs.BuiltInLaws.{built_in_when}
use Rattle.built_in.proofs.all.is_built_in.Goals as goal

pub returns-then-ordinary : goal.returns-then-ordinary
returns-then-ordinary c =
    c.if-ordinary.true
    ∙ ap (λ b. b || c.is_below-below.result) (sym c.if-ordinary.true)
    ∙ built_in_when c.args.name.now c.is_one_of-ordinary.result c.is_below-below.result c.is_one_of-ordinary.ensures c.is_below-below.ensures

pub returns-else-ordinary : goal.returns-else-ordinary
returns-else-ordinary c =
    ap (λ b. b || c.is_below-below.result) (sym c.if-ordinary.false)
    ∙ built_in_when c.args.name.now c.is_one_of-ordinary.result c.is_below-below.result c.is_one_of-ordinary.ensures c.is_below-below.ensures
