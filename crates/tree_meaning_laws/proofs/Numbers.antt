-- Proves that a byte in two's complement is in range (JVMS 6.5 bipush).
use Rattle.std.proofs.Common.{◌≡◌, ℕ, suc, ◌+◌, ◌-◌, ◌<◌, ◌≤◌, true, cond, ℤ, refl, arith}
use Rattle.std.specs.Prelude.{pos, negsuc, int_le, nat_le, nat_lt, ◌&&◌}
use Rattle.std.specs.Int.{w8}
use Rattle.std.specs.Int.Signed.{mag}
use Rattle.std.proofs.lemmas.Bool.{and_from, le-leb, ltb-true, ltb-false, cond_both}
use Rattle.jvms_file.specs.Bytes.{signed}
use Rattle.jvms_file.specs.Spelling.{IsU1}

-- A number of a magnitude of at most k is from -k - 1 to k.
in_range : (k : ℕ) (n : ℤ) → mag n ≤ k → (int_le (negsuc k) n && int_le n (pos k)) ≡ true
in_range k (pos m) small = le-leb m k small
in_range k (negsuc m) small = and_from (nat_le m k) true (le-leb m k small) refl

-- The number of these bits has a magnitude of at most half - 1.
by_sign : (half m : ℕ) → m < half + half → mag (cond (nat_lt m half) (pos m) (negsuc (half + half - suc m))) ≤ half - 1
by_sign half m small =
    cond_both (nat_lt m half) (pos m) (negsuc (half + half - suc m)) (λ z. mag z ≤ half - 1)
    (λ below. omega (arith, ltb-true m half below))
    (λ above. omega (arith, ltb-false m half above))

pub signed8 : (m : ℕ) → IsU1 m → (int_le (negsuc 127) (signed w8 m) && int_le (signed w8 m) (pos 127)) ≡ true
signed8 m small = in_range 127 (signed w8 m) (by_sign 128 m (omega arith))
