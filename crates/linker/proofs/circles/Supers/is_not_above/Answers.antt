use Rattle.std.proofs.Common.{List, ℕ, sym, subst, ap, ◌∙◌}
use Rattle.classes.specs.Hierarchy.{super_rows}
use Rattle.linker.specs.Supers.{Fall}
use Rattle.linker.proofs.AncestryLaws.{apart}
use Rattle.linker.proofs.circles.Supers.is_not_above.Goals as goal

pub returns-then-self : goal.returns-then-self
returns-then-self c =
    λ holds name names there is.
    apart c.args.self.now c.self.inside.rows.items c.as_slice-ranks.result.now c.args.number c.rank.result c.args.numbers.now
    (c.self.invariant.rows_are ∙ ap super_rows c.self.view_is)
    (subst (λ (ranks : List ℕ). Fall c.self.inside.rows.items ranks) (sym c.as_slice-ranks.ensures.value) (c.self.invariant.ranks_fall c.if-self.true))
    c.rank.ensures (sym c.all_are_below.ensures ∙ holds) name names there is
