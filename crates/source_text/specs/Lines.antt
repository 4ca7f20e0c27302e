-- Defines the lines of a text.
use Rattle.std.specs.Prelude.{ℕ, List, [], ◌∷◌, ◌++◌}
use Rattle.std.specs.List.{flat_map}

-- Returns a line with its line end.
abbrev pub with_lf : List ℕ → List ℕ
with_lf line = line ++ 10 ∷ []

-- Returns the text of lines.
abbrev pub text_of_lines : List (List ℕ) → List ℕ
text_of_lines lines = flat_map with_lf lines
