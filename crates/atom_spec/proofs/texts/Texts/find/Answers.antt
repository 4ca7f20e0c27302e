-- Look-up in the map's entries.
use Rattle.std.proofs.Common.{ap, ◌∙◌}
use Rattle.atom_spec.specs.Lookup.{lookup_text}
use Rattle.atom_spec.proofs.LookupLaws.{found_among}
use Rattle.atom_spec.proofs.texts.Texts.find.Goals as goal

pub returns : goal.returns
returns g c =
    c.get.ensures.value ∙ found_among c.self.inside.values.entries c.args.text.now ∙ ap (λ l. lookup_text l c.args.text.now) c.self.view_is
