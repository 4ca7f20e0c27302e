-- Defines the view of each command.
use Rattle.std.specs.Prelude.{List, unwrap_or}
use Rattle.std.specs.Option.{option_and_then}
use Rattle.jvms_program.specs.declared.program.Class.{Class}
use Rattle.jvms_program.specs.Program.{class_number}
use Rattle.debugger_commands.specs.declared.breakpoint.Breakpoint.{Breakpoint}
use Rattle.debugger_commands.specs.declared.command.Command.{Command}
use Rattle.debugger_commands.specs.declared.command.Command.TheVariants as command
use Rattle.debugger_commands.specs.declared.command.Place.{Place}
use Rattle.debugger_commands.specs.Sessions.{Session, method_of_place}
use Rattle.debugger.specs.declared.view.View.{View}
use Rattle.debugger.specs.declared.view.View.TheVariants as view

-- Returns the breakpoint that is added at a place.
abbrev pub breakpoint_at : List Class → Session → Place → Breakpoint
breakpoint_at program x place = record {
  number = x.next;
  method = unwrap_or (method_of_place program place) (record { class = 0; method = 0 });
  instruction = place.instruction;
}

-- Returns the view of a command that is executed on a session.
abbrev pub view_of : List Class → Session → Command → View
view_of program x (command.Step n) = view.Position
view_of program x (command.Back n) = view.Position
view_of program x (command.Goto n) = view.Position
view_of program x command.Continue = view.Position
view_of program x command.ReverseContinue = view.Position
view_of program x (command.Pick t) = view.Position
view_of program x (command.Break place) = view.Added (breakpoint_at program x place)
view_of program x (command.Delete k) = view.Removed k
view_of program x command.Threads = view.Threads
view_of program x (command.Frames t) = view.Frames t
view_of program x (command.Object r) = view.Object r
view_of program x (command.Class name) = view.Class (unwrap_or (option_and_then (class_number program) name) 0)
view_of program x command.Trace = view.Trace
view_of program x command.Output = view.Output
