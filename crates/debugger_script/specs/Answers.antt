-- Defines the answers of the debugger (own).
use Rattle.std.specs.Prelude.{◌≡◌, ◌≢◌, ℕ, ◌-◌, List, [], ◌∷◌, ◌++◌, codes, length, Option, Some, slice_get, Result, Ok, Err}
use Rattle.std.specs.Fmt.{decimal}
use Rattle.jvms_machine.specs.declared.machine.Outcome.{Outcome}
use Rattle.jvms_machine.specs.Status.{status_of}
use Rattle.jvms_program.specs.declared.program.Class.{Class}
use Rattle.machine_text.specs.Objects.{class_text, object_text, output_text}
use Rattle.machine_text.specs.Outcomes.{outcome_text, status_text}
use Rattle.machine_text.specs.Places.{place_text}
use Rattle.machine_text.specs.Threads.{frames_text, threads_text}
use Rattle.trace_text.specs.Traces.{trace_text}
use Rattle.debugger_commands.specs.declared.breakpoint.Breakpoint.{Breakpoint}
use Rattle.debugger_commands.specs.declared.command.Command.{Command}
use Rattle.debugger_commands.specs.declared.fault.DebugFault.{DebugFault}
use Rattle.debugger_commands.specs.declared.fault.DebugFault.TheVariants as fault
use Rattle.debugger_commands.specs.Readings.{Reads}
use Rattle.debugger_commands.specs.Sessions.{Session, after}
use Rattle.debugger.specs.declared.view.View.{View}
use Rattle.debugger.specs.declared.view.View.TheVariants as view
use Rattle.debugger.specs.States.{Setting, items_at, machine_at, outcome_at}
use Rattle.debugger.specs.Views.{view_of}

-- ---- Views

-- Returns `, thread T OUTCOME` for the last choice before the position, if there is one.
abbrev pub last_text : List Class → Option ℕ → Option Outcome → List ℕ
last_text program (Some t) (Some o) = codes ", thread " ++ decimal t ++ codes " " ++ outcome_text program o
last_text program _ _ = []

-- Returns the line `at P of N STATUS`, with the last choice.
abbrev pub position_text : Setting → Session → List ℕ
position_text g x =
    let m = machine_at g x.choices x.position in
    codes "at " ++ decimal x.position ++ codes " of " ++ decimal (length x.choices)
    ++ codes " " ++ status_text (status_of m.program m.limits m.start m.state)
    ++ last_text m.program (slice_get x.choices (x.position - 1)) (outcome_at g x.choices x.position) ++ codes "\n"

-- Returns the line `breakpoint K at C.m.D @i`.
abbrev pub breakpoint_text : List Class → Breakpoint → List ℕ
breakpoint_text program b = codes "breakpoint " ++ decimal b.number ++ codes " at " ++ place_text program b.method b.instruction ++ codes "\n"

-- Returns the text of a view of a session at its position.
abbrev pub view_text : Setting → Session → View → List ℕ
view_text g x view.Position = position_text g x
view_text g x (view.Added b) = breakpoint_text g.program b
view_text g x (view.Removed k) = codes "deleted " ++ decimal k ++ codes "\n"
view_text g x view.Threads = threads_text (machine_at g x.choices x.position)
view_text g x (view.Frames t) = frames_text (machine_at g x.choices x.position) t
view_text g x (view.Object r) = object_text (machine_at g x.choices x.position) r
view_text g x (view.Class c) = class_text (machine_at g x.choices x.position) c
view_text g x view.Trace = trace_text (items_at g x.choices x.position)
view_text g x view.Output = output_text (machine_at g x.choices x.position)

-- ---- Faults

abbrev pub fault_text : DebugFault → List ℕ
fault_text fault.UnknownCommand = codes "fault B01 UnknownCommand\n"
fault_text fault.Number = codes "fault B02 Number\n"
fault_text fault.NoThread = codes "fault B03 NoThread\n"
fault_text fault.NoObject = codes "fault B04 NoObject\n"
fault_text fault.NoBreakpoint = codes "fault B05 NoBreakpoint\n"
fault_text fault.NoPlace = codes "fault B06 NoPlace\n"
fault_text fault.Memory = codes "fault B07 Memory\n"

-- ---- Lines

-- The text is the answer to a command, and y the session after it. A refused command changes nothing.
abbrev pub IsAnswerTo : Setting → Session → Command → Result Session DebugFault → List ℕ → Session → Type 0
IsAnswerTo g x c (Ok after) text y = (y ≡ after) × (text ≡ view_text g after (view_of g.program x c))
IsAnswerTo g x c (Err e) text y = (y ≡ x) × (text ≡ fault_text e)

-- The text is the answer to a line that was read so. Lack of memory is no answer.
abbrev pub IsAnswerToReading : Setting → Session → Result Command DebugFault → List ℕ → Session → Type 0
IsAnswerToReading g x (Ok c) text y = IsAnswerTo g x c (after g.program g.limits g.start x c) text y
IsAnswerToReading g x (Err e) text y = (e ≢ fault.Memory) × (y ≡ x) × (text ≡ fault_text e)

-- The text is the answer to a line, and y the session after it.
abbrev pub IsAnswer : Setting → Session → List ℕ → List ℕ → Session → Type 0
IsAnswer g x line text y = (r : Result Command DebugFault) × Reads line r × IsAnswerToReading g x r text y

-- The text has the answers to lines, one after another, and y is the session after them.
abbrev pub AreAnswers : Setting → Session → List (List ℕ) → List ℕ → Session → Type 0
AreAnswers g x [] text y = (text ≡ []) × (y ≡ x)
AreAnswers g x (line ∷ lines) text y =
    (first : List ℕ) × (rest : List ℕ) × (next : Session) × IsAnswer g x line first next × AreAnswers g next lines rest y × (text ≡ first ++ rest)
