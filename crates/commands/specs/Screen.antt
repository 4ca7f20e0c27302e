-- Defines what a device gets for a text, where it is a terminal and where it isn't.
use Rattle.std.specs.Prelude.{ℕ, Bool, List, ◌++◌, codes, if◌then◌else◌}
use Rattle.command_line.specs.Screen.{shown_line, shown_lines}

-- Returns a text of lines as a terminal shows it, and else the text itself.
abbrev pub lines_for : Bool → List ℕ → List ℕ
lines_for is_terminal text = if is_terminal then shown_lines text else text

-- Returns the line of a refusal with this text. At a terminal it has no control character but its line end.
abbrev pub refusal_line : Bool → List ℕ → List ℕ
refusal_line is_terminal text =
    codes "jvmx: " ++ (if is_terminal then shown_line text else text) ++ codes "\n"
