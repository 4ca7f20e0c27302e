-- Defines the numbers that words spell: decimal digits with an optional sign, or `0x` and hexadecimal digits.
use Rattle.std.specs.Prelude.{ℕ, ◌+◌, ◌*◌, Bool, false, ◌==◌, ◌&&◌, nat_lt, nat_le, if◌then◌else◌, List, [], ◌∷◌, drop, Option, Some, None, ℤ, pos, neg_ℤ, int_le}
use Rattle.std.specs.Option.{option_map, option_and_then}
use Rattle.std.specs.List.{before_first, after_first}
use Rattle.jvms_file.specs.Names.{begins_with}
use Rattle.jasmin.specs.Lexing.{digit, is_empty}

-- Returns the value of a digit that is below the radix.
abbrev pub digit_below : ℕ → ℕ → Option ℕ
digit_below radix u = option_and_then (λ d. if nat_lt d radix then Some d else None) (digit u)

-- Returns the number whose digits are those of `n`, followed by these.
abbrev pub digits_after : ℕ → ℕ → List ℕ → Option ℕ
digits_after radix n [] = Some n
digits_after radix n (u ∷ us) =
    option_and_then (λ d. digits_after radix (n * radix + d) us) (digit_below radix u)

-- Returns the number that digits spell. There is at least one digit.
abbrev pub natural : ℕ → List ℕ → Option ℕ
natural radix us = if is_empty us then None else digits_after radix 0 us

-- Decides whether a word begins with `0x`.
abbrev pub is_hexadecimal : List ℕ → Bool
is_hexadecimal us = begins_with 48 us && begins_with 120 (drop 1 us)

-- Returns the number that a word spells, if it spells one.
unfoldable pub number_of : List ℕ → Option ℤ
number_of us =
    if is_hexadecimal us then option_map pos (natural 16 (drop 2 us))
    else (if begins_with 45 us then option_map (λ n. neg_ℤ (pos n)) (natural 10 (drop 1 us))
    else (if begins_with 43 us then option_map pos (natural 10 (drop 1 us))
    else option_map pos (natural 10 us)))

-- Returns the number, if it is within the bounds.
abbrev pub between : ℤ → ℤ → ℤ → Option ℤ
between least most n = if int_le least n && int_le n most then Some n else None

-- Decides whether there is a number and it is within the bounds.
abbrev pub is_from_to : ℕ → ℕ → Option ℕ → Bool
is_from_to least most None = false
is_from_to least most (Some n) = nat_le least n && nat_le n most

-- Decides whether a word spells a version: a decimal number from 45 to 50, a dot, and one from 0 to 65535.
abbrev pub is_version : List ℕ → Bool
is_version us =
    is_from_to 45 50 (natural 10 (before_first (λ u. u == 46) us))
    && is_from_to 0 65535 (natural 10 (after_first (λ u. u == 46) us))
