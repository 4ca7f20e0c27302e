use Rattle.std.proofs.Common.{◌≤◌, length, subst}
use Rattle.linker.specs.Supers.{Numbers}
use Rattle.linker.proofs.SetLaws.{marked_are_few}
use Rattle.linker.proofs.number_set.NumberSet.few_classes_invariant.Goals as goal

pub returns : goal.returns
returns c = subst (λ (s : Numbers). length s.numbers ≤ s.limit) c.self.view_is (marked_are_few c.self.inside.marks.items c.self.inside.order.items c.self.invariant)
