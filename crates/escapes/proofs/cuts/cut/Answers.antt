-- By the place of the first such byte.
use Rattle.std.proofs.Common.{sym, ◌∙◌}
use Rattle.escapes.proofs.Cutting.{no_place, place_cuts}
use Rattle.escapes.proofs.cuts.cut.Goals as goal

pub returns-in_err-place-clause-exact : goal.returns-in_err-place-clause-exact
returns-in_err-place-clause-exact c =
    rw c.from_residual.ensures (no_place c.args.byte c.args.text.now (sym c.place_of.ensures ∙ c.in_err-place.was))

pub returns-clause-exact : goal.returns-clause-exact
returns-clause-exact c = place_cuts c.args.byte c.args.text.now c.in_ok-place.place (sym c.place_of.ensures ∙ c.in_ok-place.was)
