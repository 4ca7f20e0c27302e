-- Defines what `trace` prints of a run: the text of its trace, or its choices as a schedule.
use Rattle.std.specs.Prelude.{ℕ, List, [], ◌∷◌, ◌++◌, codes}
use Rattle.std.specs.List.{flat_map}
use Rattle.std.specs.Fmt.{decimal}
use Rattle.trace_text.specs.Traces.{trace_text}
use Rattle.program_runs.specs.Shown.{Shown}
use Rattle.commands.specs.declared.choices.TraceText.{TraceText}
use Rattle.commands.specs.declared.choices.TraceText.TheVariants as trace_text_kind

-- Returns the text of a thread that isn't the first of a list.
abbrev pub further_text : ℕ → List ℕ
further_text thread = codes "," ++ decimal thread

-- Returns threads separated by commas.
abbrev pub threads_text : List ℕ → List ℕ
threads_text [] = []
threads_text (thread ∷ threads) = decimal thread ++ flat_map further_text threads

-- Returns the line of the schedule of these choices.
abbrev pub choices_text : List ℕ → List ℕ
choices_text choices = codes "list:" ++ threads_text choices ++ codes "\n"

-- Returns the text of a run.
abbrev pub text_of : TraceText → Shown → List ℕ
text_of trace_text_kind.Items shown = trace_text shown.items
text_of trace_text_kind.Choices shown = choices_text shown.choices
