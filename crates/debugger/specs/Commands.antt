-- Defines the effect of a command on a session, and how many turns it takes.
use Rattle.std.specs.Prelude.{◌≡◌, ℕ, ◌+◌, ◌<◌, ◌≤◌, max, Result, Ok, Err}
use Rattle.debugger_commands.specs.declared.command.Command.{Command}
use Rattle.debugger_commands.specs.declared.command.Command.TheVariants as command
use Rattle.debugger_commands.specs.declared.fault.DebugFault.{DebugFault}
use Rattle.debugger_commands.specs.declared.fault.DebugFault.TheVariants as fault
use Rattle.debugger_commands.specs.Sessions.{Session, after}
use Rattle.debugger.specs.declared.view.View.{View}
use Rattle.debugger.specs.Sessions.{Debugger}
use Rattle.debugger.specs.Views.{view_of}

-- Returns the session after a command, or the fault of a refused command.
abbrev pub after_command : Debugger → Command → Result Session DebugFault
after_command d c = after d.setting.program d.setting.limits d.setting.start d.session c

-- A move takes few turns. To a position that the session has visited, they are fewer than the spacing. Else they are at
-- most the distance from `far`, plus the spacing less one.
abbrev pub IsNear : Debugger → Debugger → Type 0
IsNear old new =
    (new.session.position ≤ old.far → new.replayed < new.spacing)
    × (old.far < new.session.position → new.replayed + old.far < new.session.position + new.spacing)

-- The number of turns that a command takes is bounded.
abbrev pub IsShort : Command → Debugger → Debugger → Type 0
IsShort (command.Step n) old new = IsNear old new
IsShort (command.Back n) old new = IsNear old new
IsShort (command.Goto n) old new = IsNear old new
IsShort command.Continue old new = new.replayed + old.session.position ≤ new.session.position
IsShort command.ReverseContinue old new = new.replayed ≤ old.session.position + new.spacing
IsShort (command.Pick t) old new = new.replayed ≤ new.spacing
IsShort _ old new = new.replayed ≡ 0

-- Returns the greatest position since the choices were last cut, after a command.
abbrev pub far_after : Command → Debugger → ℕ → ℕ
far_after (command.Pick t) old position = position
far_after _ old position = max old.far position

-- A command was executed with this view.
pub record Did (c : Command) (old : Debugger) (new : Debugger) (v : View) : Type 0 where
  pub setting : new.setting ≡ old.setting
  pub session : after_command old c ≡ Ok new.session
  pub view : v ≡ view_of old.setting.program old.session c
  pub most : new.most ≡ max old.most new.session.position
  pub far : new.far ≡ far_after c old new.session.position
  pub short : IsShort c old new

-- The command may need memory: it moves, or it is `break`.
abbrev pub TakesMemory : Command → Type 0
TakesMemory (command.Step n) = Unit {0}
TakesMemory (command.Back n) = Unit {0}
TakesMemory (command.Goto n) = Unit {0}
TakesMemory command.Continue = Unit {0}
TakesMemory command.ReverseContinue = Unit {0}
TakesMemory (command.Pick t) = Unit {0}
TakesMemory (command.Break place) = Unit {0}
TakesMemory _ = ⊥

-- A command is refused for this fault. For lack of memory it is refused only if there is no other fault.
abbrev pub IsRefused : Command → Debugger → DebugFault → Type 0
IsRefused c old fault.Memory = TakesMemory c × (x : Session) × (after_command old c ≡ Ok x)
IsRefused c old e = after_command old c ≡ Err e
