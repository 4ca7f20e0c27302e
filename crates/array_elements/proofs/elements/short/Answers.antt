use Rattle.std.proofs.Common.{ap, ◌∙◌, w16, w32, pos, to_z, nat_abs}
use Rattle.std.specs.Int.{int_rem_euclid, int_wrap}
use Rattle.std.proofs.lemmas.Int.{to_z-of_z}
use Rattle.array_elements.proofs.elements.short.Goals as goal

pub returns : goal.returns
unfolding int_wrap
returns c =
    to_z-of_z w16 c.cast_signed-low.result (record { sfits = c.cast_signed-low.type_inv }) ∙ c.cast_signed-low.ensures
    ∙ ap (λ z. to_z w16 (nat_abs z)) (to_z-of_z w32 c.rem_euclid.result (record { sfits = c.rem_euclid.type_inv }) ∙ c.rem_euclid.ensures.value ∙ ap (λ m. int_rem_euclid m (pos 65536)) (to_z-of_z w32 c.args.n c.ranges.n))
