use Rattle.std.proofs.Common.{sym, ◌∙◌}
use Rattle.atom_spec.proofs.BuiltIns.{not_built_in}
use Rattle.atom_spec.proofs.spec.is_built_in_class.Goals as goal

pub returns-then-not-begins_as_built_in : goal.returns-then-not-begins_as_built_in
returns-then-not-begins_as_built_in c = not_built_in c.args.class.now (sym c.begins_as_built_in.ensures ∙ c.if-not-begins_as_built_in.true)
