-- Names in texts (own).
use Rattle.std.specs.Prelude.{ℕ, ◌+◌, ◌/◌, ◌%◌, Bool, not, ◌&&◌, ◌==◌, nat_lt, nat_le, if◌then◌else◌, List, [], ◌∷◌}
use Rattle.std.specs.List.{flat_map}

-- Decides whether a unit is written as itself: one from 33 to 126, except the backslash.
abbrev pub is_plain : ℕ → Bool
is_plain u = nat_le 33 u && nat_le u 126 && not (u == 92)

-- Returns a hexadecimal digit, in lower case.
abbrev pub hexadecimal : ℕ → ℕ
hexadecimal d = if nat_lt d 10 then 48 + d else 87 + d

-- Returns the four hexadecimal digits of a unit.
abbrev pub four_digits : ℕ → List ℕ
four_digits u = hexadecimal (u / 4096) ∷ hexadecimal (u / 256 % 16) ∷ hexadecimal (u / 16 % 16) ∷ hexadecimal (u % 16) ∷ []

-- Returns a unit as it is written: itself, or \u and its four digits.
abbrev pub unit_text : ℕ → List ℕ
unit_text u = if is_plain u then u ∷ [] else 92 ∷ 117 ∷ four_digits u

-- Returns a name as it is written, one unit after another.
abbrev pub name_text : List ℕ → List ℕ
name_text us = flat_map unit_text us
