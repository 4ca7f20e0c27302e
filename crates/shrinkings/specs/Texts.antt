-- Defines the text of a shrunk run (own): its line, and a second one if the search was stopped.
use Rattle.std.specs.Prelude.{ℕ, Bool, true, false, List, [], ◌++◌, codes}
use Rattle.exploration_text.specs.Texts.{failing_line}
use Rattle.shrinkings.specs.declared.shrunk_run.ShrunkRun.{ShrunkRun}

-- Returns the line `stopped`, unless no single departure can be left out.
abbrev pub stopped_text : Bool → List ℕ
stopped_text true = []
stopped_text false = codes "stopped\n"

-- Returns the text of a shrunk run.
abbrev pub shrunk_text : ShrunkRun → List ℕ
shrunk_text shrunk = failing_line shrunk.run ++ stopped_text shrunk.is_least
