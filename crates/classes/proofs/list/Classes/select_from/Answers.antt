use Rattle.std.proofs.Common.{rules, refl}
use Rattle.classes.proofs.PlaceLaws.{selected_above}
use Rattle.classes.proofs.list.Classes.select_from.Goals as goal

pub returns : goal.returns
returns c =
    λ found at. selected_above c.args.self.now c.args.self.now c.args.class.now _ _ found c.args.n c.in_ok-method.method.now c.select_named.result
    refl (search rules) c.if-method.false c.as_slice.ensures c.as_slice-2.ensures c.select_named.ensures at
