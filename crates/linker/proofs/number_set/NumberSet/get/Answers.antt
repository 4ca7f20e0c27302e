use Rattle.std.proofs.Common.{ap, ◌∙◌, slice_get}
use Rattle.linker.specs.Supers.{Numbers}
use Rattle.linker.proofs.SetLaws.{below_if}
use Rattle.linker.proofs.number_set.NumberSet.get.Goals as goal

pub returns-clause-below : goal.returns-clause-below
returns-clause-below c =
    below_if c.self.inside.marks.items c.self.inside.order.items c.args.place c.args.self.now.limit c.item_at.result c.self.invariant
    (ap (λ (s : Numbers). s.limit) c.self.view_is) (c.item_at.ensures ∙ ap (λ ns. slice_get ns c.args.place) c.as_slice.ensures.value)
