-- The printed bytes (own): an int or a long in decimal, a string in UTF-8, null as its name, and the end of a line.
use Rattle.std.specs.Prelude.{ℕ, ◌+◌, ◌-◌, ◌*◌, Bool, true, false, ◌&&◌, if◌then◌else◌, List, [], ◌∷◌, ◌++◌, Option, Some, codes, encode_utf8}
use Rattle.std.specs.List.{flat_map}
use Rattle.std.specs.Fmt.{signed_decimal}
use Rattle.shared_data.specs.Surrogates.{is_high, is_low}
use Rattle.jvms_machine.specs.declared.action.Printed.{Printed}
use Rattle.jvms_machine.specs.declared.action.Printed.TheVariants as printed
use Rattle.jvms_machine.specs.State.{Object, text, object_at}

-- Returns the characters of units. A pair of surrogates is one character, and a single surrogate becomes a question
-- mark.
abbrev pub characters : List ℕ → List ℕ
characters [] = []
characters (u ∷ []) = (if is_high u then 63 else (if is_low u then 63 else u)) ∷ []
characters (u ∷ v ∷ units) =
    if is_high u && is_low v then (0x10000 + (u - 0xd800) * 0x400 + (v - 0xdc00)) ∷ characters units
    else (if is_high u then 63 else (if is_low u then 63 else u)) ∷ characters (v ∷ units)

-- Returns a text in UTF-8.
abbrev pub text_bytes : List ℕ → List ℕ
text_bytes units = flat_map encode_utf8 (characters units)

abbrev pub object_bytes : Option Object → List ℕ
object_bytes (Some (text units)) = text_bytes units
object_bytes _ = []

abbrev pub printed_bytes : List Object → Printed → List ℕ
printed_bytes heap printed.Nothing = []
printed_bytes heap (printed.Int n) = signed_decimal n
printed_bytes heap (printed.Long n) = signed_decimal n
printed_bytes heap printed.Null = codes "null"
printed_bytes heap (printed.Text r) = object_bytes (object_at heap r)

-- Returns the printed bytes, with byte 0A at the end of a line.
abbrev pub line_bytes : List Object → Printed → Bool → List ℕ
line_bytes heap what true = printed_bytes heap what ++ 10 ∷ []
line_bytes heap what false = printed_bytes heap what
