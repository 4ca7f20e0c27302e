use Rattle.std.proofs.Common.{rules, refl, sym, ap, ◌∙◌}
use Rattle.classes.specs.MethodNames.{reference}
use Rattle.classes.specs.Places.{method_in}
use Rattle.classes.proofs.MethodLaws.{constructor_located}
use Rattle.classes.proofs.methods.reference_method.Goals as goal

pub returns : goal.returns
returns c =
    constructor_located c.args.program.now (reference c.args.r) _ _ c.in_ok-number.class.now _ _ refl refl (search rules) (sym c.in_ok-number.ensures.class)
    (c.look.ensures ∙ ap (λ n. method_in n c.args.r.name.now c.args.r.descriptor.now c.in_ok-number.class.now) c.in_ok-number.ensures.place)
    c.method_number_at.ensures
