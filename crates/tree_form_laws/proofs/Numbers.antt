-- Proves that numbers in two's complement are in range (JVMS 4.4.4, 4.4.5, 6.5).
use Rattle.std.proofs.Common.{◌≡◌, ℕ, suc, ◌+◌, ◌-◌, ◌^◌, ◌<◌, ◌≤◌, true, cond, ℤ, ap, ◌∙◌, refl, arith}
use Rattle.std.specs.Prelude.{pos, negsuc, ◌+ℤ◌, ◌-ℤ◌, int_le, nat_le, nat_lt, unsigned_abs, ◌&&◌}
use Rattle.std.specs.Int.{w8, w16, w32, w64}
use Rattle.std.specs.Int.Signed.{mag}
use Rattle.std.proofs.lemmas.Int.{ints}
use Rattle.std.proofs.lemmas.Bool.{and_from, and_parts, leb-true, le-leb, ltb-true, ltb-false, cond_both, false≢true}
use Rattle.jvms_file.specs.Bytes.{signed}
use Rattle.jvms_file.specs.Spelling.{IsU1, IsU2, IsU4}
use Rattle.source_form_laws.specs.Formed.{IsSigned}

-- A number of a magnitude of at most k is from -k - 1 to k.
in_range : (k : ℕ) (n : ℤ) → mag n ≤ k → (int_le (negsuc k) n && int_le n (pos k)) ≡ true
in_range k (pos m) small = le-leb m k small
in_range k (negsuc m) small = and_from (nat_le m k) true (le-leb m k small) refl

-- The number of these bits has a magnitude of at most half - 1.
by_sign : (half m : ℕ) → m < half + half → mag (cond (nat_lt m half) (pos m) (negsuc (half + half - suc m))) ≤ half - 1
by_sign half m small =
    cond_both (nat_lt m half) (pos m) (negsuc (half + half - suc m)) (λ z. mag z ≤ half - 1)
    (λ below. omega (arith, ltb-true m half below))
    (λ above. omega (arith, ltb-false m half above))

pub signed8 : (m : ℕ) → IsU1 m → IsSigned 7 (signed w8 m)
signed8 m small = in_range 127 (signed w8 m) (by_sign 128 m (omega arith))

pub signed16 : (m : ℕ) → IsU2 m → IsSigned 15 (signed w16 m)
signed16 m small = in_range 32767 (signed w16 m) (by_sign 32768 m (omega arith))

pub signed32 : (m : ℕ) → IsU4 m → IsSigned 31 (signed w32 m)
signed32 m small = in_range 2147483647 (signed w32 m) (by_sign 2147483648 m (omega arith))

pub signed64 : (m : ℕ) → m < 2 ^ 64 → IsSigned 63 (signed w64 m)
signed64 m small = in_range 9223372036854775807 (signed w64 m) (by_sign 9223372036854775808 m (omega arith))

-- A number from -k - 1 to k has a magnitude of at most k.
mag_of : (k : ℕ) (n : ℤ) → (int_le (negsuc k) n && int_le n (pos k)) ≡ true → mag n ≤ k
mag_of k (pos m) is = leb-true m k is
mag_of k (negsuc m) is = leb-true m k (and_parts (nat_le m k) true is).0

-- A signed number of eight bits fits sixteen.
pub signed_widened : (n : ℤ) → IsSigned 7 n → IsSigned 15 n
signed_widened n is = let small : mag n ≤ 127 = mag_of 127 n is in in_range 32767 n (omega arith)

-- An int is at most the greatest int.
pub at_most : (n : ℤ) → IsSigned 31 n → int_le n (pos (2 ^ 31 - 1)) ≡ true
at_most n is = (and_parts (int_le (negsuc 2147483647) n) (int_le n (pos 2147483647)) is).1

-- The lesser number plus the distance is the greater number.
pub gap_added : (low high : ℤ) → int_le low high ≡ true → low +ℤ pos (unsigned_abs (high -ℤ low)) ≡ high
gap_added (pos a) (pos b) is =
    let order : a ≤ b = leb-true a b is in
    let gap : pos b -ℤ pos a ≡ pos (b - a) = omega (arith, ints) in
    ap (λ (z : ℤ). pos a +ℤ pos (unsigned_abs z)) gap ∙ omega (arith, ints)
gap_added (negsuc a) (pos b) is =
    let gap : pos b -ℤ negsuc a ≡ pos (b + a + 1) = omega (arith, ints) in
    ap (λ (z : ℤ). negsuc a +ℤ pos (unsigned_abs z)) gap ∙ omega (arith, ints)
gap_added (negsuc a) (negsuc b) is =
    let order : b ≤ a = leb-true b a is in
    let gap : negsuc b -ℤ negsuc a ≡ pos (a - b) = omega (arith, ints) in
    ap (λ (z : ℤ). negsuc a +ℤ pos (unsigned_abs z)) gap ∙ omega (arith, ints)
gap_added (pos a) (negsuc b) is = absurd (false≢true is)
