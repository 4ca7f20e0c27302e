use Rattle.std.proofs.Common.{ap, ◌∙◌}
use Rattle.text_index.specs.Lookup.{indexed_reference}
use Rattle.text_index.proofs.IndexLaws.{found_among}
use Rattle.text_index.proofs.index.Index.find.Goals as goal

pub returns : goal.returns
returns c =
    c.copied.ensures ∙ c.get.ensures.value ∙ found_among c.self.inside.references.entries c.args.units.now ∙ ap (λ l. indexed_reference l c.args.units.now) c.self.view_is
