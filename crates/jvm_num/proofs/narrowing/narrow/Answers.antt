use Rattle.std.specs.Int.{w8, w16, w32, int_wrap}
use Rattle.std.proofs.lemmas.Int.{to_z-of_z}
use Rattle.jvm_num.proofs.narrowing.narrow.Goals as goal

pub returns-in-Byte : goal.returns-in-Byte
unfolding int_wrap
returns-in-Byte c =
    let n = to_z-of_z w32 c.args.n c.ranges.n in
    let left = to_z-of_z w32 c.rem_euclid.result (record { sfits = c.rem_euclid.type_inv }) in
    let small = to_z-of_z w8 c.cast_signed.result (record { sfits = c.cast_signed.type_inv }) in
    let r = to_z-of_z w32 c.from.result (record { sfits = c.from.type_inv }) in
    rw c.in-Byte.is (cc)

pub returns-in-Short : goal.returns-in-Short
unfolding int_wrap
returns-in-Short c =
    let n = to_z-of_z w32 c.args.n c.ranges.n in
    let left = to_z-of_z w32 c.rem_euclid-in-Short.result (record { sfits = c.rem_euclid-in-Short.type_inv }) in
    let small = to_z-of_z w16 c.cast_signed-in-Short.result (record { sfits = c.cast_signed-in-Short.type_inv }) in
    let r = to_z-of_z w32 c.from-in-Short.result (record { sfits = c.from-in-Short.type_inv }) in
    rw c.in-Short.is (cc)
