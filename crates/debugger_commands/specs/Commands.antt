-- Defines the words of the debugger's commands.
use Rattle.std.specs.Prelude.{ℕ, List, Option, Some, None, codes, if◌then◌else◌}
use Rattle.jvms_file.specs.Names.{same_text}
use Rattle.debugger_commands.specs.declared.command.Command.{Command}
use Rattle.debugger_commands.specs.declared.command.Command.TheVariants as command

-- Returns the command that one word spells.
abbrev pub command_of : List ℕ → Option Command
command_of w =
    if same_text w (codes "continue") then Some command.Continue
    else if same_text w (codes "rcontinue") then Some command.ReverseContinue
    else if same_text w (codes "threads") then Some command.Threads
    else if same_text w (codes "trace") then Some command.Trace
    else if same_text w (codes "output") then Some command.Output
    else None

-- Returns the command that a name and a number spell.
abbrev pub with_number : List ℕ → ℕ → Option Command
with_number w n =
    if same_text w (codes "step") then Some (command.Step n)
    else if same_text w (codes "back") then Some (command.Back n)
    else if same_text w (codes "goto") then Some (command.Goto n)
    else if same_text w (codes "pick") then Some (command.Pick n)
    else if same_text w (codes "delete") then Some (command.Delete n)
    else if same_text w (codes "frames") then Some (command.Frames n)
    else if same_text w (codes "object") then Some (command.Object n)
    else None
