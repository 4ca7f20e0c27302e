-- Defines the lines that report how a run ended.
use Rattle.std.specs.Prelude.{ℕ, List, [], ◌∷◌, ◌++◌, codes}
use Rattle.std.specs.List.{flat_map}
use Rattle.std.specs.Fmt.{decimal}
use Rattle.jvms_machine.specs.declared.machine.Status.{Status}
use Rattle.escapes.specs.Escapes.{name_text}
use Rattle.machine_text.specs.Outcomes.{status_text}
use Rattle.runs.specs.declared.ending.Ending.{Ending}

-- Returns the line of a thread that ended with an exception of this class.
abbrev pub uncaught_line : ℕ × List ℕ → List ℕ
uncaught_line u = codes "uncaught " ++ decimal u.0 ++ codes " " ++ name_text u.1 ++ codes "\n"

-- Returns the line of the status, with the number of turns.
abbrev pub status_line : Status → ℕ → List ℕ
status_line s turns = codes "status " ++ status_text s ++ codes " turns " ++ decimal turns ++ codes "\n"

-- Returns the lines of uncaught exceptions, in ascending order of threads, and the line of the status.
abbrev pub ending_lines : Ending → List ℕ
ending_lines ending = flat_map uncaught_line ending.uncaught ++ status_line ending.status ending.turns
