-- The rest isn't empty, and begins with no unit.
use Rattle.escapes.proofs.Spelling.{no_name, not_empty}
use Rattle.escapes.proofs.name.units_of.Goals as goal

pub returns-in_default : goal.returns-in_default
returns-in_default c =
    no_name c.args.text.now c.loop-rest.units.items c.loop-rest.rest.now c.loop-rest.invariant.1 c.loop-rest.invariant.0
    (not_empty c.loop-rest.rest.now c.is_empty.result c.is_empty.ensures c.loop-rest-test.true) c.in_default.ensures.exact
