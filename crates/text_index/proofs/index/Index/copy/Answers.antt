use Rattle.std.proofs.Common.{◌∙◌}
use Rattle.std.specs.List.{each_same}
use Rattle.text_index.proofs.IndexLaws.{copied}
use Rattle.text_index.proofs.index.Index.copy.Goals as goal

pub returns : goal.returns
returns c =
    copied _ (λ v w is. each_same v.items w.items is.0) c.self.inside.references.entries c.in_ok-clone.field-0.entries c.in_ok-clone.ensures.cases
    ∙ c.self.view_is
