-- Defines what contracts see of a session, and the invariants of its parts.
use Rattle.std.specs.Prelude.{◌≡◌, ℕ, List, MatchResult, Result, Ok}
use Rattle.jvms_program.specs.declared.program.Class.{Class}
use Rattle.jvms_machine.specs.declared.machine.Entry.{Entry}
use Rattle.jvms_machine.specs.declared.machine.Limits.{Limits}
use Rattle.jvms_machine.specs.Opening.{start_of_entry}
use Rattle.jvms_machine.specs.Start.{Start}
use Rattle.machine.specs.declared.fault.MachineFault.{MachineFault}
use Rattle.machine.specs.Started.{IsNotMade}
use Rattle.debugger_commands.specs.declared.breakpoint.Breakpoint.{Breakpoint}
use Rattle.debugger_commands.specs.Sessions.{Session, new_session}
use Rattle.debugger.specs.declared.body.Body.{Body}
use Rattle.debugger.specs.declared.reach.Reach.{Reach}
use Rattle.debugger.specs.declared.replay.Replay.{Replay}
use Rattle.debugger.specs.States.{Setting, items_at}
use Rattle.debugger.specs.Timelines.{IsTimeline, setting}

-- A session with its setting. `far` is the greatest position since the choices were last cut, and `most` the greatest
-- ever. `spacing` is the distance between checkpoints. `replayed` is the number of turns that the last accepted command
-- took.
pub record Debugger : Type 0 where
  pub setting : Setting
  pub session : Session
  pub most : ℕ
  pub far : ℕ
  pub spacing : ℕ
  pub replayed : ℕ

-- Returns a new session.
abbrev pub new_debugger : Setting → List ℕ → Debugger
new_debugger g choices = record { setting = g; session = new_session choices; most = 0; far = 0; spacing = 1; replayed = 0 }

-- A session begins if there is a machine for the entry.
abbrev pub IsBegun : List Class → Limits → Entry → List ℕ → Result Debugger MachineFault → Type 0
IsBegun program limits e choices result =
    MatchResult result (λ d. (start : Start) × (start_of_entry program limits e ≡ Ok start) × (d ≡ new_debugger (record { program = program; limits = limits; start = start }) choices))
    (IsNotMade program limits e)

abbrev pub session_of : Body → Session
session_of b = record {
  choices = b.timeline.choices.items;
  position = b.timeline.position;
  breakpoints = b.breakpoints.items;
  next = b.breakpoints.next;
}

abbrev pub debugger_of : Body → Debugger
debugger_of b = record {
  setting = setting b.timeline;
  session = session_of b;
  most = b.timeline.most;
  far = b.timeline.far;
  spacing = b.timeline.spacing;
  replayed = b.replayed;
}

-- The timeline is right, and the trace has the items up to the greatest position since the choices were last cut.
pub record IsBody (b : Body) : Type 0 where
  pub timeline : IsTimeline b.timeline
  pub trace : b.trace ≡ items_at (setting b.timeline) b.timeline.choices.items b.timeline.far

-- Returns the session with other breakpoints, and with the number of the next one. This takes no turn.
abbrev pub with_breakpoints : Debugger → List Breakpoint → ℕ → Debugger
with_breakpoints d breakpoints next = record d { session = record d.session { breakpoints = breakpoints; next = next }; replayed = 0 }

-- Returns the session after it moved to a replay's position.
abbrev pub moved_by : Debugger → Replay → Reach → Debugger
moved_by d r x = record d {
  session = record d.session { position = r.position };
  most = x.most;
  far = x.far;
  spacing = x.spacing;
  replayed = r.made;
}
