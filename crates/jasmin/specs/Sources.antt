-- Defines the text of a source.
use Rattle.std.specs.Prelude.{ℕ, List}
use Rattle.std.specs.List.{flat_map}
use Rattle.std.specs.Str.{chars}
use Rattle.std.specs.Char.Escape.{encode_utf16}

-- Returns the UTF-16 code units of a text in UTF-8. A supplementary character has two: its surrogate pair.
abbrev pub units_of : List ℕ → List ℕ
units_of text = flat_map encode_utf16 (chars text)
