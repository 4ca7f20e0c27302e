-- Proves that numbers in decimal digits are words, and that they are read as the numbers that they spell.
use Rattle.std.proofs.Common.{◌≡◌, ℕ, zero, suc, ◌+◌, ◌-◌, ◌*◌, ◌/◌, ◌%◌, ◌^◌, ◌<◌, ◌≤◌, ◌&&◌, Bool, true, false, not, cond, eqb, List, [], ◌∷◌, length, Some, Ok, ℤ, refl, ap, ◌∙◌, arith}
use Rattle.std.specs.Prelude.{nat_le, pos, negsuc, neg_ℤ, int_le}
use Rattle.std.specs.List.{list_all}
use Rattle.std.specs.Fmt.{decimal, signed_decimal, digits, digits_onto, digit_glyph}
use Rattle.std.specs.Char.{digit_value}
use Rattle.std.specs.Str.Parse.{AllDigits, digits_value_after}
use Rattle.std.specs.Int.Signed.{mag}
use Rattle.std.proofs.Math.Nat.{mod-lt}
use Rattle.std.proofs.lemmas.Bool.{and_parts, le-leb, lt-ltb, leb-true, ne_eqb}
use Rattle.std.proofs.lemmas.Fmt.{decimal_is_IsNumeral}
use Rattle.std.proofs.lemmas.Str.{digit_value_digit}
use Rattle.std.proofs.lemmas.Str.Parse.{digit_from_value}
use Rattle.jvms_file.specs.Names.{begins_with}
use Rattle.source_form_laws.specs.Formed.{IsSigned}
use Rattle.jasmin.specs.declared.token.Lexeme.TheVariants as lexeme
use Rattle.jasmin.specs.Lexing.{ends_word, is_empty}
use Rattle.jasmin.specs.Numerals.{digit_below, digits_after, natural, number_of}
use Rattle.jasmin.specs.Operands.{judged_number, i8_at, i16_at, i32_at, i64_at, u8_at, u16_at}
use Rattle.listing_laws.proofs.Words.{IsPlain}

-- ---- Digits

abbrev pub is_decimal : ℕ → Bool
is_decimal u = nat_le 48 u && nat_le u 57

glyph_is : (d : ℕ) → d < 10 → is_decimal (digit_glyph false d) ≡ true
glyph_is d small = rw (lt-ltb d 10 small, le-leb 48 (48 + d) (omega arith), le-leb (48 + d) 57 (omega arith)) refl

either : (b : Bool) (xs ys : List ℕ) → list_all is_decimal xs ≡ true → list_all is_decimal ys ≡ true → list_all is_decimal (cond b xs ys) ≡ true
either true xs ys p q = p
either false xs ys p q = q

digits_are : (k n : ℕ) (acc : List ℕ) → list_all is_decimal acc ≡ true → list_all is_decimal (digits_onto k 10 false n acc) ≡ true
digits_are zero n acc are = are
digits_are (suc k) n acc are =
    let small : n % 10 < 10 = mod-lt n (omega arith) in
    let here : list_all is_decimal (digit_glyph false (n % 10) ∷ acc) ≡ true = rw (glyph_is (n % 10) small, are) refl in
    either (eqb (n / 10) 0) (digit_glyph false (n % 10) ∷ acc) (digits_onto k 10 false (n / 10) (digit_glyph false (n % 10) ∷ acc)) here
    (digits_are k (n / 10) (digit_glyph false (n % 10) ∷ acc) here)

-- The digits of a number are decimal.
pub decimal_digits : (n : ℕ) → list_all is_decimal (decimal n) ≡ true
unfolding digits
decimal_digits n = digits_are 64 n [] refl

-- No digit ends a word.
decimal_goes_on : (u : ℕ) → is_decimal u ≡ true → not (ends_word u) ≡ true
decimal_goes_on u e =
    let both = and_parts (nat_le 48 u) (nat_le u 57) e in
    let low : 48 ≤ u = leb-true 48 u both.0 in
    let high : u ≤ 57 = leb-true u 57 both.1 in
    rw (ne_eqb u 32 (λ same. omega arith), ne_eqb u 9 (λ same. omega arith), ne_eqb u 12 (λ same. omega arith), ne_eqb u 13 (λ same. omega arith), ne_eqb u 34 (λ same. omega arith), ne_eqb u 58 (λ same. omega arith), ne_eqb u 61 (λ same. omega arith)) refl

pub digits_go_on : (ds : List ℕ) → list_all is_decimal ds ≡ true → list_all (λ u. not (ends_word u)) ds ≡ true
digits_go_on [] e = refl
digits_go_on (d ∷ ds) e =
    let both = and_parts (is_decimal d) (list_all is_decimal ds) e in
    rw (decimal_goes_on d both.0, digits_go_on ds both.1) refl

-- ---- The spelled numbers

digit_is : (c : ℕ) → digit_value c < 10 → digit_below 10 c ≡ Some (digit_value c)
digit_is c small =
    let range = digit_from_value c small in
    let low : 48 ≤ c = range.0 in
    let high : c ≤ 57 = range.1 in
    let value : digit_value c ≡ c - 48 = let v = digit_value_digit c range in omega arith in
    rw (value, le-leb 48 c low, le-leb c 57 high, lt-ltb (c - 48) 10 (omega arith)) refl

digits_read : (ds : List ℕ) (n : ℕ) → AllDigits 10 ds → digits_after 10 n ds ≡ Some (digits_value_after 10 n ds)
digits_read [] n are = refl
digits_read (c ∷ cs) n are = rw (digit_is c are.0) (digits_read cs (n * 10 + digit_value c) are.1)

-- The digits spell the number, are at least one, and are decimal.
pub record IsNumber (ds : List ℕ) (n : ℕ) : Type 0 where
  pub value : natural 10 ds ≡ Some n
  pub some : not (is_empty ds) ≡ true
  pub are : list_all is_decimal ds ≡ true

number_is : (ds : List ℕ) (n : ℕ) → 0 < length ds → AllDigits 10 ds → digits_value_after 10 0 ds ≡ n → list_all is_decimal ds ≡ true → IsNumber ds n
number_is [] n some are value all = absurd (omega arith)
number_is (c ∷ cs) n some are value all = record { value = digits_read (c ∷ cs) 0 are ∙ ap (λ (m : ℕ). Some m) value; some = refl; are = all }

pub decimal_number : (n : ℕ) → n < 2 ^ 64 → IsNumber (decimal n) n
decimal_number n small =
    let is = decimal_is_IsNumeral n small in
    number_is (decimal n) n is.0.0 is.0.1 is.1 (decimal_digits n)

-- A decimal digit is from 48 to 57, so it is none of the other units of numbers.
pub record IsDigit (u : ℕ) : Type 0 where
  pub low : 48 ≤ u
  pub high : u ≤ 57

pub digit_range : (u : ℕ) → is_decimal u ≡ true → IsDigit u
digit_range u e =
    let both = and_parts (nat_le 48 u) (nat_le u 57) e in
    record { low = leb-true 48 u both.0; high = leb-true u 57 both.1 }

-- Decimal digits don't begin with `x`, so a number isn't read as hexadecimal.
no_x : (us : List ℕ) → list_all is_decimal us ≡ true → begins_with 120 us ≡ false
no_x [] e = refl
no_x (u ∷ us) e =
    let r = digit_range u (and_parts (is_decimal u) (list_all is_decimal us) e).0 in
    let low = r.low in
    let high = r.high in
    ne_eqb u 120 (λ same. omega arith)

both_no : (a b : Bool) → b ≡ false → (a && b) ≡ false
both_no true b e = e
both_no false b e = refl

number_reads : (ds : List ℕ) (n : ℕ) → IsNumber ds n → number_of ds ≡ Some (pos n)
unfolding number_of
number_reads [] n is = absurd (let e = is.some in cc)
number_reads (d ∷ ds) n is =
    let both = and_parts (is_decimal d) (list_all is_decimal ds) is.are in
    let r = digit_range d both.0 in
    let low = r.low in
    let high = r.high in
    rw (both_no (eqb d 48) (begins_with 120 ds) (no_x ds both.1), ne_eqb d 45 (λ same. omega arith), ne_eqb d 43 (λ same. omega arith), is.value) refl

pub decimal_reads : (n : ℕ) → n < 2 ^ 64 → number_of (decimal n) ≡ Some (pos n)
decimal_reads n small = number_reads (decimal n) n (decimal_number n small)

pub signed_reads : (z : ℤ) → mag z < 2 ^ 63 → number_of (signed_decimal z) ≡ Some z
unfolding number_of
signed_reads (pos n) small = decimal_reads n (omega arith)
signed_reads (negsuc n) small = rw (decimal_number (suc n) (omega arith)).value refl

-- ---- Numbers are words

pub decimal_plain : (n : ℕ) → n < 2 ^ 64 → IsPlain (decimal n)
decimal_plain n small =
    let is = decimal_number n small in
    record { some = is.some; units = digits_go_on (decimal n) is.are; plain = first (decimal n) is.are }
  where
    first : (ds : List ℕ) → list_all is_decimal ds ≡ true → begins_with 59 ds ≡ false
    first [] e = refl
    first (u ∷ us) e =
        let r = digit_range u (and_parts (is_decimal u) (list_all is_decimal us) e).0 in
        let low = r.low in
        let high = r.high in
        ne_eqb u 59 (λ same. omega arith)

pub signed_plain : (z : ℤ) → mag z < 2 ^ 63 → IsPlain (signed_decimal z)
signed_plain (pos n) small = decimal_plain n (omega arith)
signed_plain (negsuc n) small = record { some = refl; units = digits_go_on (decimal (suc n)) (decimal_digits (suc n)); plain = refl }

-- ---- Numbers within bounds

within : (m : ℕ) (n : ℤ) → (int_le (negsuc m) n && int_le n (pos m)) ≡ true → mag n ≤ m
within m (pos n) is = leb-true n m is
within m (negsuc n) is = leb-true n m (and_parts (nat_le n m) true is).0

-- The magnitude of a signed number of 64 bits is at most 2^63 - 1.
pub small63 : (z : ℤ) → IsSigned 63 z → mag z < 2 ^ 63
small63 z is = let small : mag z ≤ 9223372036854775807 = within 9223372036854775807 z is in omega arith

pub small31 : (z : ℤ) → IsSigned 31 z → mag z < 2 ^ 63
small31 z is = let small : mag z ≤ 2147483647 = within 2147483647 z is in omega arith

pub small15 : (z : ℤ) → IsSigned 15 z → mag z < 2 ^ 63
small15 z is = let small : mag z ≤ 32767 = within 32767 z is in omega arith

pub small7 : (z : ℤ) → IsSigned 7 z → mag z < 2 ^ 63
small7 z is = let small : mag z ≤ 127 = within 127 z is in omega arith

judged : (least most : ℤ) (w : List ℕ) (z : ℤ) → number_of w ≡ Some z → (int_le least z && int_le z most) ≡ true → judged_number least most w ≡ Ok z
judged least most w z is fits = rw (is, fits) refl

pub i8_reads : (z : ℤ) → IsSigned 7 z → i8_at (Some (lexeme.Word (signed_decimal z))) ≡ Ok z
i8_reads z is = judged (neg_ℤ (pos 128)) (pos 127) (signed_decimal z) z (signed_reads z (small7 z is)) is

pub i16_reads : (z : ℤ) → IsSigned 15 z → i16_at (Some (lexeme.Word (signed_decimal z))) ≡ Ok z
i16_reads z is = judged (neg_ℤ (pos 32768)) (pos 32767) (signed_decimal z) z (signed_reads z (small15 z is)) is

pub i32_reads : (z : ℤ) → IsSigned 31 z → i32_at (Some (lexeme.Word (signed_decimal z))) ≡ Ok z
i32_reads z is = judged (neg_ℤ (pos 2147483648)) (pos 2147483647) (signed_decimal z) z (signed_reads z (small31 z is)) is

pub i64_reads : (z : ℤ) → IsSigned 63 z → i64_at (Some (lexeme.Word (signed_decimal z))) ≡ Ok z
i64_reads z is = judged (neg_ℤ (pos 9223372036854775808)) (pos 9223372036854775807) (signed_decimal z) z (signed_reads z (small63 z is)) is

pub u8_reads : (n : ℕ) → n < 2 ^ 8 → u8_at (Some (lexeme.Word (decimal n))) ≡ Ok n
u8_reads n small = rw (judged (pos 0) (pos 255) (decimal n) (pos n) (decimal_reads n (omega arith)) (rw (le-leb 0 n (omega arith), le-leb n 255 (omega arith)) refl)) refl

pub u16_reads : (n : ℕ) → n < 2 ^ 16 → u16_at (Some (lexeme.Word (decimal n))) ≡ Ok n
u16_reads n small = rw (judged (pos 0) (pos 65535) (decimal n) (pos n) (decimal_reads n (omega arith)) (rw (le-leb 0 n (omega arith), le-leb n 65535 (omega arith)) refl)) refl
