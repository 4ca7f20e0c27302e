-- Proves that a loop reads digits one at a time.
use Rattle.std.proofs.Common.{◌≡◌, ℕ, ◌+◌, ◌*◌, ◌^◌, ◌<◌, ◌≤◌, Bool, true, false, ◌&&◌, cond, nat_lt, List, [], ◌∷◌, length, get_or, Option, Some, None, is_some, refl, arith}
use Rattle.std.proofs.lemmas.Bool.{ltb-true}
use Rattle.std.proofs.lemmas.Bool.Decides.{nat_tests}
use Rattle.std.proofs.Math.Nat.{mul-le-mul_left}
use Rattle.std.specs.List.{list_all}
use Rattle.std.specs.Option.{option_and_then}
use Rattle.jasmin.specs.Lexing.{digit}
use Rattle.jasmin.specs.Numerals.{digit_below, digits_after, natural}
use Rattle.jasmin_operands.specs.Numbers.{unsigned_64_bits}

one_digit : (radix n : ℕ) (us : List ℕ) (d : ℕ) (b : Bool) → nat_lt d radix ≡ b → 2 ^ 64 ≤ n
    → ((m : ℕ) → 2 ^ 64 ≤ m → option_and_then unsigned_64_bits (digits_after radix m us) ≡ None)
    → option_and_then unsigned_64_bits (option_and_then (λ d. digits_after radix (n * radix + d) us) (cond b (Some d) None)) ≡ None
one_digit radix n us d true below large later =
    let few : d < radix = ltb-true d radix below in
    let some : 1 ≤ radix = omega arith in
    let more : n * 1 ≤ n * radix = mul-le-mul_left n some in
    later (n * radix + d) (omega arith)
one_digit radix n us d false below large later = refl

one_more : (radix n : ℕ) (us : List ℕ) (o : Option ℕ) → 2 ^ 64 ≤ n
    → ((m : ℕ) → 2 ^ 64 ≤ m → option_and_then unsigned_64_bits (digits_after radix m us) ≡ None)
    → option_and_then unsigned_64_bits (option_and_then (λ d. digits_after radix (n * radix + d) us) (option_and_then (λ d. cond (nat_lt d radix) (Some d) None) o)) ≡ None
one_more radix n us None large later = refl
one_more radix n us (Some d) large later = one_digit radix n us d (nat_lt d radix) refl large later

-- If a number doesn't fit 64 bits, nor does it with further digits.
too_large : (radix n : ℕ) (us : List ℕ) → 2 ^ 64 ≤ n → option_and_then unsigned_64_bits (digits_after radix n us) ≡ None
too_large radix n [] large = grind arith
too_large radix n (u ∷ us) large = one_more radix n us (digit u) large (λ m larger. too_large radix m us larger)

-- Without further digits, the number is complete.
pub no_more : (radix n : ℕ) (us : List ℕ) → length us < 1 → n < 2 ^ 64 → option_and_then unsigned_64_bits (digits_after radix n us) ≡ Some n
no_more radix n [] few small = grind arith
no_more radix n (u ∷ us) few small = absurd (omega arith)

not_held : (n : ℕ) → unsigned_64_bits n ≡ None → 2 ^ 64 ≤ n
not_held n none = grind (arith, nat_tests)

unread : (radix n : ℕ) (us : List ℕ) (d : ℕ) → option_and_then unsigned_64_bits (Some (n * radix + d)) ≡ None
    → option_and_then unsigned_64_bits (digits_after radix (n * radix + d) us) ≡ None
unread radix n us d fails = too_large radix (n * radix + d) us (not_held (n * radix + d) fails)

not_read : (radix n : ℕ) (us : List ℕ) (o : Option ℕ) → option_and_then (λ d. unsigned_64_bits (n * radix + d)) o ≡ None
    → option_and_then unsigned_64_bits (option_and_then (λ d. digits_after radix (n * radix + d) us) o) ≡ None
not_read radix n us None fails = refl
not_read radix n us (Some d) fails = unread radix n us d fails

-- If the next unit is no digit, or the number with it doesn't fit 64 bits, no number is read.
pub stops : (radix n : ℕ) (us : List ℕ) → 1 ≤ length us → option_and_then (λ d. unsigned_64_bits (n * radix + d)) (digit_below radix (get_or us 0 0)) ≡ None
    → option_and_then unsigned_64_bits (digits_after radix n us) ≡ None
stops radix n [] some fails = absurd (omega arith)
stops radix n (u ∷ us) some fails = not_read radix n us (digit_below radix u) fails

is_spelled : (radix n : ℕ) (us : List ℕ) (o : Option ℕ)
    → ((m : ℕ) → is_some (digits_after radix m us) ≡ list_all (λ u. is_some (digit_below radix u)) us)
    → is_some (option_and_then (λ d. digits_after radix (n * radix + d) us) o) ≡ (is_some o && list_all (λ u. is_some (digit_below radix u)) us)
is_spelled radix n us None later = refl
is_spelled radix n us (Some d) later = later (n * radix + d)

-- Units spell a number exactly if all of them are digits.
all_digits : (radix n : ℕ) (us : List ℕ) → is_some (digits_after radix n us) ≡ list_all (λ u. is_some (digit_below radix u)) us
all_digits radix n [] = refl
all_digits radix n (u ∷ us) = is_spelled radix n us (digit_below radix u) (λ m. all_digits radix m us)

-- At least one unit spells a number exactly if all of them are digits.
pub natural_digits : (radix : ℕ) (us : List ℕ) → 0 < length us → is_some (natural radix us) ≡ list_all (λ u. is_some (digit_below radix u)) us
natural_digits radix [] some = absurd (omega arith)
natural_digits radix (u ∷ us) some = all_digits radix 0 (u ∷ us)

pub no_natural : (radix : ℕ) (us : List ℕ) → length us ≡ 0 → natural radix us ≡ None
no_natural radix [] none = refl
no_natural radix (u ∷ us) none = absurd (omega arith)

pub some_natural : (radix : ℕ) (us : List ℕ) → 0 < length us → natural radix us ≡ digits_after radix 0 us
some_natural radix [] some = absurd (omega arith)
some_natural radix (u ∷ us) some = refl
