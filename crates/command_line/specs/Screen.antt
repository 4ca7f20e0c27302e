-- Defines how a text is shown at a terminal, which would obey its control characters.
use Rattle.std.specs.Prelude.{ℕ, List, [], ◌∷◌, ◌==◌, if◌then◌else◌, encode_utf8}
use Rattle.std.specs.Char.{is_control}
use Rattle.std.specs.List.{flat_map}
use Rattle.std.specs.Str.{chars}
use Rattle.escapes.specs.Escapes.{unit_text}

-- Returns a character as it is shown: a control character (C0, DEL and C1) as \u and four hexadecimal digits, and each
-- other one as itself.
abbrev pub shown_character : ℕ → List ℕ
shown_character c = if is_control c then unit_text c else encode_utf8 c

-- Returns a character of a text of lines as it is shown: a line end stays.
abbrev pub shown_in_lines : ℕ → List ℕ
shown_in_lines c = if c == 10 then 10 ∷ [] else shown_character c

-- Returns a text as it is shown on one line.
abbrev pub shown_line : List ℕ → List ℕ
shown_line text = flat_map shown_character (chars text)

-- Returns a text of lines as it is shown.
abbrev pub shown_lines : List ℕ → List ℕ
shown_lines text = flat_map shown_in_lines (chars text)
