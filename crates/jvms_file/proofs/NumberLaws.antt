-- Of the numbers that differ from a number by a multiple of 2^32, the wrapped one is the only int.
use Rattle.std.proofs.Common.{◌≡◌, ℕ, ◌+◌, ◌-◌, ◌*◌, ◌/◌, ◌%◌, ◌^◌, ◌<◌, arith, ap, ◌∙◌}
use Rattle.std.specs.Prelude.{ℤ, pos, negsuc, ◌+ℤ◌}
use Rattle.std.specs.Int.{w32, int_wrap, cast_signed, cast_unsigned}
use Rattle.std.specs.Int.RustNames.{FitsSigned}
use Rattle.std.proofs.lemmas.Int.{ints, of_z-to_z, SFits-int_wrap}
use Rattle.jvms_file.specs.Numbers.{wrap, IsInt, IsCongruent}

pub wrap_is_int : (n : ℤ) → IsInt (wrap n)
wrap_is_int n =
    let fits = SFits-int_wrap w32 n in
    record { least = omega (arith, ints); most = omega (arith, ints) }

-- The 32 bits of an int, read without a sign, are the int plus a multiple of 2^32.
unsigned_read : (z : ℤ) → FitsSigned w32 z → (j : ℕ) × (z +ℤ pos (j * 2 ^ 32) ≡ pos (cast_unsigned w32 z))
unsigned_read (pos n) fits = (0, omega (arith, ints))
unsigned_read (negsuc n) fits = (1, omega (arith, ints))

-- The int that 32 bits spell, plus a multiple of 2^32, is these bits read without a sign.
signed_read : (x : ℕ) → x < 2 ^ 32 → FitsSigned w32 (cast_signed w32 x) → (j : ℕ) × (cast_signed w32 x +ℤ pos (j * 2 ^ 32) ≡ pos x)
signed_read x small fits =
    let read = unsigned_read (cast_signed w32 x) fits in
    let same = of_z-to_z w32 x small in
    (read.0, read.1 ∙ ap pos same)

pub wrap_is_congruent : (n : ℤ) → IsCongruent n (wrap n)
unfolding int_wrap
wrap_is_congruent (pos a) =
    let read = signed_read (a % 2 ^ 32) (omega arith) (SFits-int_wrap w32 (pos a)) in
    let is = read.1 in
    (pos (a / 2 ^ 32 + read.0), omega (arith, ints))
wrap_is_congruent (negsuc a) =
    let read = signed_read (2 ^ 32 - 1 - a % 2 ^ 32) (omega arith) (SFits-int_wrap w32 (negsuc a)) in
    let is = read.1 in
    (pos read.0 +ℤ negsuc (a / 2 ^ 32), omega (arith, ints))

-- Two ints that differ by a multiple of 2^32 are one.
pub one_int : (n m r : ℤ) → IsInt m → IsInt r → IsCongruent n m → IsCongruent n r → m ≡ r
one_int n m r from to first second =
    let here = first.1 in
    let there = second.1 in
    omega (arith, ints)
