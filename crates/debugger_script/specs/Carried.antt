-- Defines executed commands, and those for whose answers memory ran out.
use Rattle.std.specs.Prelude.{◌≡◌, ◌≢◌, ◌⊎◌, ℕ, List}
use Rattle.debugger_commands.specs.declared.command.Command.{Command}
use Rattle.debugger_commands.specs.declared.fault.DebugFault.{DebugFault}
use Rattle.debugger_commands.specs.declared.fault.DebugFault.TheVariants as fault
use Rattle.debugger.specs.Commands.{after_command}
use Rattle.debugger.specs.Sessions.{Debugger}
use Rattle.debugger_script.specs.Answers.{IsAnswer, IsAnswerTo, fault_text}

-- The text is that of a fault other than lack of memory.
abbrev pub IsRefusal : DebugFault → List ℕ → Type 0
IsRefusal e text = (e ≢ fault.Memory) × (text ≡ fault_text e)

-- The text is the answer to a command, with the session after it.
abbrev pub IsAnswerOf : Debugger → Command → List ℕ → Debugger → Type 0
IsAnswerOf old c text new = IsAnswerTo old.setting old.session c (after_command old c) text new.session

-- A command was not executed, or it was, and its answer could not be made.
abbrev pub IsCommandUnanswered : Debugger → Command → Debugger → Type 0
IsCommandUnanswered old c new = (new ≡ old) ⊎ ((text : List ℕ) × IsAnswerOf old c text new)

-- The command of a line was not executed, or it was, and its answer could not be made.
abbrev pub IsLineUnanswered : Debugger → List ℕ → Debugger → Type 0
IsLineUnanswered old line new = (new ≡ old) ⊎ ((text : List ℕ) × IsAnswer old.setting old.session line text new.session)
