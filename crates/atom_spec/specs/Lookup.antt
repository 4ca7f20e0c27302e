-- Defines look-up by text.
use Rattle.std.specs.Prelude.{ℕ, List, [], ◌∷◌, Option, Some, None, if◌then◌else◌}
use Rattle.jvms_file.specs.Names.{same_text}

-- Returns the value of the first entry with this text.
abbrev pub lookup_text : {X : Type 0} → List (List ℕ × X) → List ℕ → Option X
lookup_text [] text = None
lookup_text (e ∷ es) text = if same_text text e.0 then Some e.1 else lookup_text es text
