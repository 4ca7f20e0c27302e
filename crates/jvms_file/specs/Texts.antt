-- Texts, and the bytes that code them in Modified UTF-8 (JVMS 4.4.7). A text is the list of its UTF-16 code units. A
-- supplementary character is its surrogate pair, two units.
use Rattle.std.specs.Prelude.{◌≡◌, ℕ, ◌+◌, ◌-◌, ◌*◌, ◌/◌, ◌%◌, ◌<◌, zero, suc, ◌&&◌, ◌||◌, ◌==◌, nat_lt, nat_le, if◌then◌else◌, Bool, List, [], ◌∷◌, length, Option, Some, None, Result, Ok, Err}
use Rattle.std.specs.List.{flat_map, AllByRecursion}
use Rattle.jvms_file.specs.Results.{◌>>=◌, present}

-- Returns the bytes of a unit (JVMS 4.4.7). 0001 to 007F have one byte. 0000 and 0080 to 07FF have two: C0 and 80, with
-- five and six bits of the unit. 0800 to FFFF have three: E0, 80 and 80, with four, six and six bits.
abbrev pub unit_bytes : ℕ → List ℕ
unit_bytes u =
    if nat_lt 0 u && nat_lt u 0x80 then u ∷ []
    else (if nat_lt u 0x800 then (0xc0 + u / 0x40) ∷ (0x80 + u % 0x40) ∷ []
    else (0xe0 + u / 0x1000) ∷ (0x80 + u / 0x40 % 0x40) ∷ (0x80 + u % 0x40) ∷ [])

-- Returns the bytes of a text: those of its units, in order.
unfoldable pub bytes_of_text : List ℕ → List ℕ
bytes_of_text us = flat_map unit_bytes us

-- A text whose units have 16 bits, so that each has bytes.
abbrev pub IsText : List ℕ → Type 0
IsText us = AllByRecursion (λ u. u < 0x10000) us

-- These bytes code this text. A text has one spelling.
abbrev pub Codes : List ℕ → List ℕ → Type 0
Codes bytes us = IsText us × (bytes ≡ bytes_of_text us)

-- Decides whether a byte may follow the first byte of a unit.
abbrev pub is_continuation : ℕ → Bool
is_continuation y = nat_le 0x80 y && nat_lt y 0xc0

abbrev pub two_byte_unit : ℕ → ℕ → ℕ
two_byte_unit x y = (x - 0xc0) * 0x40 + (y - 0x80)

abbrev pub three_byte_unit : ℕ → ℕ → ℕ → ℕ
three_byte_unit x y z = ((x - 0xe0) * 0x40 + (y - 0x80)) * 0x40 + (z - 0x80)

-- Reads the unit of two bytes after its first byte. Returns it and the bytes after it. A longer spelling than needed is
-- refused, except that of 0000.
abbrev pub after_lead_of_two : ℕ → List ℕ → Option (ℕ × List ℕ)
after_lead_of_two x [] = None
after_lead_of_two x (y ∷ rest) =
    let u = two_byte_unit x y in
    if is_continuation y && (u == 0 || nat_le 0x80 u) then Some (u, rest) else None

-- Reads the unit of three bytes after its first byte. Returns it and the bytes after it. A longer spelling than needed
-- is refused.
abbrev pub after_lead_of_three : ℕ → List ℕ → Option (ℕ × List ℕ)
after_lead_of_three x [] = None
after_lead_of_three x (y ∷ []) = None
after_lead_of_three x (y ∷ z ∷ rest) =
    let u = three_byte_unit x y z in
    if is_continuation y && is_continuation z && nat_le 0x800 u then Some (u, rest) else None

-- Returns the unit at the front of bytes, and the bytes after it.
unfoldable pub unit_at : List ℕ → Option (ℕ × List ℕ)
unit_at [] = None
unit_at (x ∷ rest) =
    if nat_lt 0 x && nat_lt x 0x80 then Some (x, rest)
    else (if nat_le 0xc0 x && nat_lt x 0xe0 then after_lead_of_two x rest
    else (if nat_le 0xe0 x && nat_lt x 0xf0 then after_lead_of_three x rest
    else None))

-- Returns the text that bytes code, or the first byte at which no unit begins. `place` is the place of the first of the
-- bytes. A text of n bytes has at most n units, so `most` = n is enough.
unfoldable pub decoded_from : (most place : ℕ) → List ℕ → Result (List ℕ) ℕ
decoded_from most place [] = Ok []
decoded_from zero place (x ∷ rest) = Err place
decoded_from (suc most) place (x ∷ rest) = do
  unit ← present (unit_at (x ∷ rest)) place
  us ← decoded_from most (place + (length (x ∷ rest) - length unit.1)) unit.1
  Ok (unit.0 ∷ us)

abbrev pub text_of_bytes : List ℕ → Result (List ℕ) ℕ
text_of_bytes bytes = decoded_from (length bytes) 0 bytes
