-- Defines which trees texts spell.
use Rattle.std.specs.Prelude.{◌≡◌, ℕ, List, Ok}
use Rattle.jasmin.specs.declared.source.Source.{Source}
use Rattle.jasmin.specs.Reading.{source_of}

-- Some text is read as the tree.
abbrev pub IsWritten : Source → Type 0
IsWritten tree = (text : List ℕ) × (source_of text ≡ Ok tree)
