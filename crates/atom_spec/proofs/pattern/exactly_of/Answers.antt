-- The text is no method.
use Rattle.atom_spec.proofs.Patterns.{no_method}
use Rattle.atom_spec.proofs.pattern.exactly_of.Goals as goal

pub returns-in-None : goal.returns-in-None
returns-in-None c = no_method c.args.text.now (rw c.in-None.is at c.in_ok-class.ensures)
