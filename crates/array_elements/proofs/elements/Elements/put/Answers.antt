use Rattle.std.proofs.Common.{subst}
use Rattle.array_elements.specs.Kinds.{IsOfKind}
use Rattle.array_elements.specs.Elements.{elements_kind}
use Rattle.array_elements.proofs.ElementLaws.{unset_put}
use Rattle.array_elements.proofs.elements.Elements.put.Goals as goal

pub returns-in-Nothing-clause-values : goal.returns-in-Nothing-clause-values
returns-in-Nothing-clause-values c =
    rw c.in-Nothing.is (unset_put c.in-Nothing.field-0 c.args.index c.args.value (subst (λ e. IsOfKind (elements_kind e) c.args.value) c.in-Nothing.is c.requires))
