-- Defines the texts of what explorations of parts found (own).
use Rattle.std.specs.Prelude.{◌≡◌, ℕ, List, ◌++◌, codes, IfSome, Option, None, Some, slice_get}
use Rattle.std.specs.List.{flat_map}
use Rattle.std.specs.String.{string_bytes}
use Rattle.exploration_parts.specs.declared.part.Part.{Part}
use Rattle.exploration_text.specs.Texts.{level_line, part_text, schedule_text}
use Rattle.exploring.specs.declared.answer.LevelRuns.{LevelRuns}
use Rattle.exploration_joins.specs.declared.found.Found.{Found}
use Rattle.exploration_joins.specs.declared.found.Found.TheVariants as found
use Rattle.exploration_joins.specs.declared.part.PartText.{PartText}

-- Returns the words of what was found.
abbrev pub found_text : Found → List ℕ
found_text (found.Failing departures words) = codes "failing " ++ schedule_text departures.items ++ codes " " ++ string_bytes words
found_text (found.Covered words) = codes "covered " ++ string_bytes words
found_text found.Stopped = codes "stopped"

-- Returns a line for each level, and a last one of what was found, by a part or by all.
abbrev pub text_of : List LevelRuns → Found → Option Part → List ℕ
text_of levels found part = flat_map level_line levels ++ found_text found ++ part_text part ++ codes "\n"

-- Returns the text of a part.
abbrev pub text_of_part : PartText → List ℕ
text_of_part text = text_of text.levels.items text.found (Some text.part)

-- Each level has the number of its place, from 0 on.
abbrev pub AreNumbered : List LevelRuns → Type 0
AreNumbered levels = (level : ℕ) → IfSome (slice_get levels level) (λ runs. runs.level.departures ≡ level)
