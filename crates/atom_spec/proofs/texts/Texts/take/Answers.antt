-- Removal from the map's entries.
use Rattle.std.proofs.Common.{ap, ◌∙◌}
use Rattle.atom_spec.specs.Lookup.{lookup_text}
use Rattle.atom_spec.proofs.LookupLaws.{found_among, found_others}
use Rattle.atom_spec.proofs.texts.Texts.take.Goals as goal

pub returns-clause-value : goal.returns-clause-value
returns-clause-value g c =
    c.remove.ensures.value ∙ found_among c.self.inside.values.entries c.args.text.now ∙ ap (λ l. lookup_text l c.args.text.now) c.self.view_is

pub returns-clause-others : goal.returns-clause-others
returns-clause-others g c =
    found_others c.self.inside.values.entries c.remove.new.self.entries c.args.text.now c.args.self.now c.remove.ensures.entries c.self.view_is
