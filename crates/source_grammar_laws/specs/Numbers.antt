-- Defines the grammar of numbers: decimal digits with an optional sign, or `0x` and hexadecimal digits.
use Rattle.std.specs.Prelude.{◌≡◌, ◌⊎◌, ◌<◌, ◌≤◌, IsTrue, ℕ, ◌+◌, ◌*◌, ◌^◌, not, List, [], ◌∷◌, ◌++◌, length, ℤ, pos, neg_ℤ}
use Rattle.source_form_laws.specs.Formed.{IsSigned}
use Rattle.jasmin.specs.Lexing.{is_empty}

-- A unit is the digit of this value in a radix. The digits are 0 to 9, followed by letters of either case.
abbrev pub IsDigit : ℕ → ℕ → ℕ → Type 0
IsDigit radix u d = (d < radix) × (((u ≡ 48 + d) × (d < 10)) ⊎ ((10 ≤ d) × (d < 16) × ((u ≡ 87 + d) ⊎ (u ≡ 55 + d))))

-- Digits spell a number, with the highest digit first.
abbrev pub SpellsDigits : ℕ → List ℕ → ℕ → Type 0
SpellsDigits radix [] n = n ≡ 0
SpellsDigits radix (u ∷ us) n =
    (d m : ℕ) × IsDigit radix u d × SpellsDigits radix us m × (n ≡ d * radix ^ length us + m)

-- Digits spell a number, and there is at least one digit.
abbrev pub SpellsNatural : ℕ → List ℕ → ℕ → Type 0
SpellsNatural radix us n = IsTrue (not (is_empty us)) × SpellsDigits radix us n

-- A word spells a number: decimal digits with an optional `+` or `-`, or `0x` and hexadecimal digits.
abbrev pub SpellsNumber : List ℕ → ℤ → Type 0
SpellsNumber w z =
    ((n : ℕ) × SpellsNatural 10 w n × (z ≡ pos n))
    ⊎ (((ds : List ℕ) × (n : ℕ) × (w ≡ 43 ∷ ds) × SpellsNatural 10 ds n × (z ≡ pos n))
    ⊎ (((ds : List ℕ) × (n : ℕ) × (w ≡ 45 ∷ ds) × SpellsNatural 10 ds n × (z ≡ neg_ℤ (pos n)))
    ⊎ ((ds : List ℕ) × (n : ℕ) × (w ≡ 48 ∷ 120 ∷ ds) × SpellsNatural 16 ds n × (z ≡ pos n))))

-- A word spells a signed number with this number of bits, not counting the sign bit.
abbrev pub SpellsSigned : ℕ → List ℕ → ℤ → Type 0
SpellsSigned bits w z = SpellsNumber w z × IsSigned bits z

-- A word spells an unsigned number of this number of bits.
abbrev pub SpellsUnsigned : ℕ → List ℕ → ℕ → Type 0
SpellsUnsigned bits w n = SpellsNumber w (pos n) × (n < 2 ^ bits)

-- A word spells a version `M.N`, with decimal M from 45 to 50 and N from 0 to 65535.
abbrev pub SpellsVersion : List ℕ → Type 0
SpellsVersion w =
    (major minor : List ℕ) × (m n : ℕ) × (w ≡ major ++ 46 ∷ minor) × SpellsNatural 10 major m × SpellsNatural 10 minor n
    × (45 ≤ m) × (m ≤ 50) × (n ≤ 65535)
