use Rattle.std.specs.Int.{w32, w64, int_wrap}
use Rattle.std.proofs.lemmas.Int.{to_z-of_z}
use Rattle.jvm_num.proofs.arithmetic.wrap.Goals as goal

pub returns : goal.returns
unfolding int_wrap
returns c =
    let n = to_z-of_z w64 c.args.n c.ranges.n in
    let left = to_z-of_z w64 c.rem_euclid.result (record { sfits = c.rem_euclid.type_inv }) in
    let r = to_z-of_z w32 c.cast_signed.result (record { sfits = c.cast_signed.type_inv }) in
    cc
