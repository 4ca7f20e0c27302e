-- Defines which numbers fit 64 bits.
use Rattle.std.specs.Prelude.{ℕ, ◌-◌, ◌^◌, nat_lt, if◌then◌else◌, Option, Some, None, ℤ, pos, neg_ℤ}
use Rattle.jasmin.specs.Numerals.{between}

-- Returns the number, if it fits 64 bits unsigned.
abbrev pub unsigned_64_bits : ℕ → Option ℕ
unsigned_64_bits n = if nat_lt n (2 ^ 64) then Some n else None

-- Returns the number, if it fits 64 bits signed.
abbrev pub signed_64_bits : ℤ → Option ℤ
signed_64_bits n = between (neg_ℤ (pos (2 ^ 63))) (pos (2 ^ 63 - 1)) n
