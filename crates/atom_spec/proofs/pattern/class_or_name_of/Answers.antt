-- The parts are those of the only pattern that the text could be.
use Rattle.std.proofs.Common.{sym, ◌∙◌}
use Rattle.atom_spec.proofs.Patterns.{no_class, no_name}
use Rattle.atom_spec.proofs.pattern.class_or_name_of.Goals as goal

pub returns-in_default-2 : goal.returns-in_default-2
returns-in_default-2 c =
    no_class c.args.text.now c.in-Some.class.now c.in-Some.name.now c.in-Some.ensures.exact.0 c.in-Some.ensures.exact.1 (rw c.in_default-2.is at c.in_ok-class.ensures)

pub returns-in-None : goal.returns-in-None
returns-in-None c =
    no_name c.args.text.now c.in-Some.class.now c.in-Some.name.now c.in-Some.ensures.exact.0 c.in-Some.ensures.exact.1 (sym c.is_star.ensures ∙ c.if-is_star.false) (rw c.in-None.is at c.in_ok-name.ensures)
