use Rattle.std.proofs.Common.{refl, subst}
use Rattle.classes.specs.Places.{IsMethodAt, Resolves}
use Rattle.classes.proofs.MethodNamesLaws.{same_names}
use Rattle.classes.proofs.list.Classes.resolve_method.Goals as goal

pub returns : goal.returns
returns c =
    subst (λ what. Resolves (IsMethodAt c.args.self.now) what c.resolve_named.result)
    (same_names c.args.self.now c.args.is_static (record { is_interface = c.args.r.now.is_interface; class = c.as_slice.result; name = c.as_slice-2.result; descriptor = c.as_slice-3.result }) c.args.r.now refl c.as_slice.ensures c.as_slice-2.ensures c.as_slice-3.ensures)
    c.resolve_named.ensures
