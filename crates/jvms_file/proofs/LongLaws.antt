-- Of the numbers that differ from a number by a multiple of 2^64, the wrapped one is the only long.
use Rattle.std.proofs.Common.{◌≡◌, ℕ, ◌+◌, ◌-◌, ◌*◌, ◌/◌, ◌%◌, ◌^◌, ◌<◌, arith, ap, ◌∙◌}
use Rattle.std.specs.Prelude.{ℤ, pos, negsuc, ◌+ℤ◌}
use Rattle.std.specs.Int.{w64, int_wrap, cast_signed, cast_unsigned}
use Rattle.std.specs.Int.RustNames.{FitsSigned}
use Rattle.std.proofs.lemmas.Int.{ints, of_z-to_z, SFits-int_wrap}
use Rattle.jvms_file.specs.Numbers.{long_wrap, IsLong, IsCongruentLong}

pub long_wrap_is_long : (n : ℤ) → IsLong (long_wrap n)
long_wrap_is_long n =
    let fits = SFits-int_wrap w64 n in
    record { least = omega (arith, ints); most = omega (arith, ints) }

-- The 64 bits of a long, read without a sign, are the long plus a multiple of 2^64.
unsigned_read : (z : ℤ) → FitsSigned w64 z → (j : ℕ) × (z +ℤ pos (j * 2 ^ 64) ≡ pos (cast_unsigned w64 z))
unsigned_read (pos n) fits = (0, omega (arith, ints))
unsigned_read (negsuc n) fits = (1, omega (arith, ints))

-- The long that 64 bits spell, plus a multiple of 2^64, is these bits read without a sign.
signed_read : (x : ℕ) → x < 2 ^ 64 → FitsSigned w64 (cast_signed w64 x) → (j : ℕ) × (cast_signed w64 x +ℤ pos (j * 2 ^ 64) ≡ pos x)
signed_read x small fits =
    let read = unsigned_read (cast_signed w64 x) fits in
    let same = of_z-to_z w64 x small in
    (read.0, read.1 ∙ ap pos same)

pub long_wrap_is_congruent : (n : ℤ) → IsCongruentLong n (long_wrap n)
unfolding int_wrap
long_wrap_is_congruent (pos a) =
    let read = signed_read (a % 2 ^ 64) (omega arith) (SFits-int_wrap w64 (pos a)) in
    let is = read.1 in
    (pos (a / 2 ^ 64 + read.0), omega (arith, ints))
long_wrap_is_congruent (negsuc a) =
    let read = signed_read (2 ^ 64 - 1 - a % 2 ^ 64) (omega arith) (SFits-int_wrap w64 (negsuc a)) in
    let is = read.1 in
    (pos read.0 +ℤ negsuc (a / 2 ^ 64), omega (arith, ints))

-- Two longs that differ by a multiple of 2^64 are one.
pub one_long : (n m r : ℤ) → IsLong m → IsLong r → IsCongruentLong n m → IsCongruentLong n r → m ≡ r
one_long n m r from to first second =
    let here = first.1 in
    let there = second.1 in
    omega (arith, ints)
