-- Proves that the bits of a number in two's complement are read as that number. Also proves that an offset reaches the
-- byte that it was measured to.
use Rattle.std.proofs.Common.{◌≡◌, ℕ, suc, ◌+◌, ◌-◌, ◌%◌, ◌^◌, ◌<◌, ◌≤◌, ◌⊎◌, true, ℤ, inl, inr, sym, ap, subst, ◌∙◌, arith}
use Rattle.std.specs.Prelude.{pos, negsuc, ◌+ℤ◌, ◌-ℤ◌, int_le, nat_le, unsigned_abs, ◌&&◌}
use Rattle.std.specs.Int.{w8, w16, w32, cast_unsigned}
use Rattle.std.specs.Int.RustNames.{FitsSigned}
use Rattle.std.specs.Int.Signed.{mag}
use Rattle.std.proofs.lemmas.Int.{ints, to_z-of_z}
use Rattle.std.proofs.lemmas.Bool.{and_parts, leb-true, le-leb, cases_lt}
use Rattle.jvms_file.specs.Bytes.{signed}
use Rattle.jvms_file.specs.Instructions.{target_of}
use Rattle.jvms_file.specs.Spelling.{IsU1, IsU2, IsU4}
use Rattle.source_form_laws.specs.Formed.{IsSigned}

-- ---- Numbers that fit

-- A number of at most 255 fits one byte.
pub one_byte : (n : ℕ) → nat_le n 255 ≡ true → IsU1 n
one_byte n is = let few : n ≤ 255 = leb-true n 255 is in omega arith

-- The magnitude of a number from -m - 1 to m fits m.
within : (m : ℕ) (n : ℤ) → (int_le (negsuc m) n && int_le n (pos m)) ≡ true → mag n ≤ m
within m (pos n) is = leb-true n m is
within m (negsuc n) is = leb-true n m (and_parts (nat_le n m) true is).0

-- The bits of a number are read as that number.
pub record Bits8 (n : ℤ) : Type 0 where
  pub below : IsU1 (cast_unsigned w8 n)
  pub again : n ≡ signed w8 (cast_unsigned w8 n)

pub record Bits16 (n : ℤ) : Type 0 where
  pub below : IsU2 (cast_unsigned w16 n)
  pub again : n ≡ signed w16 (cast_unsigned w16 n)

pub record Bits32 (n : ℤ) : Type 0 where
  pub below : IsU4 (cast_unsigned w32 n)
  pub again : n ≡ signed w32 (cast_unsigned w32 n)

below8 : (n : ℤ) → mag n ≤ 127 → cast_unsigned w8 n < 2 ^ 8
below8 (pos n) small = omega arith
below8 (negsuc n) small = omega arith

below16 : (n : ℤ) → mag n ≤ 32767 → cast_unsigned w16 n < 2 ^ 16
below16 (pos n) small = omega arith
below16 (negsuc n) small = omega arith

below32 : (n : ℤ) → mag n ≤ 2147483647 → cast_unsigned w32 n < 2 ^ 32
below32 (pos n) small = omega arith
below32 (negsuc n) small = omega arith

pub bits8 : (n : ℤ) → IsSigned 7 n → Bits8 n
bits8 n is =
    let small : mag n ≤ 127 = within 127 n is in
    let fits : FitsSigned w8 n = record { sfits = omega arith } in
    record { below = below8 n small; again = sym (to_z-of_z w8 n fits) }

pub bits16 : (n : ℤ) → IsSigned 15 n → Bits16 n
bits16 n is =
    let small : mag n ≤ 32767 = within 32767 n is in
    let fits : FitsSigned w16 n = record { sfits = omega arith } in
    record { below = below16 n small; again = sym (to_z-of_z w16 n fits) }

bits32_of : (n : ℤ) → mag n ≤ 2147483647 → Bits32 n
bits32_of n small =
    let fits : FitsSigned w32 n = record { sfits = omega arith } in
    record { below = below32 n small; again = sym (to_z-of_z w32 n fits) }

pub bits32 : (n : ℤ) → IsSigned 31 n → Bits32 n
bits32 n is = bits32_of n (within 2147483647 n is)

-- ---- Offsets

-- Two bytes have a distance, in either direction.
apart : (pc q : ℕ) → ((pc ≤ q) × (pos q -ℤ pos pc ≡ pos (q - pc))) ⊎ ((q < pc) × (pos q -ℤ pos pc ≡ negsuc (pc - (q + 1))))
apart pc q = elim (cases_lt q pc) [
  | inl below ↦ inr (below, omega (arith, ints))
  | inr above ↦ inl (above, omega (arith, ints))
]

-- An offset of four bytes reaches the byte that it was measured to.
pub leads : (pc q : ℕ) → pc < 65536 → q < 65536 → target_of pc (pos q -ℤ pos pc) ≡ q
leads pc q near small = elim (apart pc q) [
  | inl above ↦
      let order : pc ≤ q = above.0 in
      let there : (pc + (q - pc)) % 2 ^ 32 ≡ q = omega arith in
      ap (λ (z : ℤ). target_of pc z) above.1 ∙ there
  | inr below ↦
      let order : q < pc = below.0 in
      let there : (pc + (2 ^ 32 - (pc - (q + 1) + 1))) % 2 ^ 32 ≡ q = omega arith in
      ap (λ (z : ℤ). target_of pc z) below.1 ∙ ap (λ (n : ℕ). (pc + (2 ^ 32 - n)) % 2 ^ 32) (one_more (pc - (q + 1))) ∙ there
]
  where
    one_more : (n : ℕ) → suc n ≡ n + 1
    one_more n = omega arith

-- An offset between bytes of code fits four bytes.
pub offset32 : (pc q : ℕ) → pc < 65536 → q < 65536 → Bits32 (pos q -ℤ pos pc)
offset32 pc q near small = bits32_of (pos q -ℤ pos pc) (magnitude (apart pc q))
  where
    magnitude : ((pc ≤ q) × (pos q -ℤ pos pc ≡ pos (q - pc))) ⊎ ((q < pc) × (pos q -ℤ pos pc ≡ negsuc (pc - (q + 1)))) → mag (pos q -ℤ pos pc) ≤ 2147483647
    magnitude (inl above) = let same : mag (pos q -ℤ pos pc) ≡ q - pc = ap mag above.1 in omega arith
    magnitude (inr below) = let same : mag (pos q -ℤ pos pc) ≡ pc - (q + 1) = ap mag below.1 in omega arith

-- ---- A number plus a count

-- A negative number plus a count is nonnegative or negative, and has this value.
sum_of : (a k : ℕ) → ((a < k) × (negsuc a +ℤ pos k ≡ pos (k - (a + 1)))) ⊎ ((k ≤ a) × (negsuc a +ℤ pos k ≡ negsuc (a - k)))
sum_of a k = elim (cases_lt a k) [
  | inl below ↦ inl (below, omega (arith, ints))
  | inr above ↦ inr (above, omega (arith, ints))
]

-- The sum isn't below the number.
pub not_below : (low : ℤ) (k : ℕ) → int_le low (low +ℤ pos k) ≡ true
not_below (pos a) k = le-leb a (a + k) (omega arith)
not_below (negsuc a) k = elim (sum_of a k) [
  | inl up ↦ ap (λ (z : ℤ). int_le (negsuc a) z) up.1
  | inr down ↦ ap (λ (z : ℤ). int_le (negsuc a) z) down.1 ∙ le-leb (a - k) a (omega arith)
]

-- The sum is above the number by the count.
pub gap_is : (low : ℤ) (k : ℕ) → unsigned_abs ((low +ℤ pos k) -ℤ low) ≡ k
gap_is low k = let gap : (low +ℤ pos k) -ℤ low ≡ pos k = omega (arith, ints) in ap unsigned_abs gap

-- The sum fits if the number does and the sum isn't above the greatest int.
pub bits32_above : (low : ℤ) (k : ℕ) → IsSigned 31 low → int_le (low +ℤ pos k) (pos 2147483647) ≡ true → Bits32 (low +ℤ pos k)
bits32_above low k fits most = bits32_of (low +ℤ pos k) (magnitude low (within 2147483647 low fits) most)
  where
    apart_by : (a : ℕ) → a ≤ 2147483647 → int_le (negsuc a +ℤ pos k) (pos 2147483647) ≡ true → ((a < k) × (negsuc a +ℤ pos k ≡ pos (k - (a + 1)))) ⊎ ((k ≤ a) × (negsuc a +ℤ pos k ≡ negsuc (a - k))) → mag (negsuc a +ℤ pos k) ≤ 2147483647
    apart_by a small top (inl up) =
        let test : int_le (pos (k - (a + 1))) (pos 2147483647) ≡ true = ap (λ (z : ℤ). int_le z (pos 2147483647)) (sym up.1) ∙ top in
        let same : mag (negsuc a +ℤ pos k) ≡ k - (a + 1) = ap mag up.1 in
        let few : k - (a + 1) ≤ 2147483647 = leb-true (k - (a + 1)) 2147483647 test in
        subst (λ (n : ℕ). n ≤ 2147483647) (sym same) few
    apart_by a small top (inr down) =
        let same : mag (negsuc a +ℤ pos k) ≡ a - k = ap mag down.1 in
        let few : a - k ≤ 2147483647 = omega arith in
        subst (λ (n : ℕ). n ≤ 2147483647) (sym same) few

    magnitude : (z : ℤ) → mag z ≤ 2147483647 → int_le (z +ℤ pos k) (pos 2147483647) ≡ true → mag (z +ℤ pos k) ≤ 2147483647
    magnitude (pos a) small top = leb-true (a + k) 2147483647 top
    magnitude (negsuc a) small top = apart_by a small top (sum_of a k)
