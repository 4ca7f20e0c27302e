-- Defines the state of a debugger's session, and the effect of each command on it.
use Rattle.std.specs.Prelude.{ℕ, zero, suc, ◌+◌, ◌-◌, ◌<◌, ◌≤◌, ◌==◌, ◌&&◌, Bool, false, not, min, List, [], ◌∷◌, ◌++◌, length, take, Option, Some, None, is_some, slice_get, Result, Ok, Err, position as place_of_first, if◌then◌else◌, nat_lt}
use Rattle.std.specs.List.{All, list_any, remove}
use Rattle.std.specs.Option.{option_and_then, option_map, ok_or}
use Rattle.jvms_program.specs.declared.program.Class.{Class}
use Rattle.jvms_program.specs.declared.number.MethodNumber.{MethodNumber}
use Rattle.jvms_program.specs.declared.key.MethodKey.{MethodKey}
use Rattle.jvms_program.specs.Program.{class_number, declared_number}
use Rattle.jvms_machine.specs.declared.machine.Limits.{Limits}
use Rattle.jvms_machine.specs.declared.state.StackFrame.TheVariants as stack_frame
use Rattle.jvms_machine.specs.State.{State, Thread, Frame, object_at, body_at}
use Rattle.jvms_machine.specs.Start.{Start}
use Rattle.jvms_machine.specs.Run.{run}
use Rattle.debugger_commands.specs.declared.breakpoint.Breakpoint.{Breakpoint}
use Rattle.debugger_commands.specs.declared.command.Command.{Command}
use Rattle.debugger_commands.specs.declared.command.Command.TheVariants as command
use Rattle.debugger_commands.specs.declared.command.Place.{Place}
use Rattle.debugger_commands.specs.declared.fault.DebugFault.{DebugFault}
use Rattle.debugger_commands.specs.declared.fault.DebugFault.TheVariants as fault

-- The choices, how many of them have been taken, and the breakpoints, with the number of the next one.
pub record Session : Type 0 where
  pub choices : List ℕ
  pub position : ℕ
  pub breakpoints : List Breakpoint
  pub next : ℕ

-- The invariant of a session: it is at one of its positions, and the numbers of its breakpoints are below the next.
pub record IsSession (x : Session) : Type 0 where
  pub position : x.position ≤ length x.choices
  pub next : 0 < x.next
  pub numbers : All (λ b. b.number < x.next) x.breakpoints

-- Returns a session that begins before the first choice, without a breakpoint.
abbrev pub new_session : List ℕ → Session
new_session choices = record { choices = choices; position = 0; breakpoints = []; next = 1 }

-- Returns the machine's state after the first n of these choices.
unfoldable pub state_after : List Class → Limits → Start → List ℕ → ℕ → State
state_after program limits start choices n = (run program limits start (take n choices)).state

-- Returns the state at a session's position.
abbrev pub state_of : List Class → Limits → Start → Session → State
state_of program limits start x = state_after program limits start x.choices x.position

-- ---- Moves

-- Moves a session to a position, at most to the end.
abbrev pub with_position : Session → ℕ → Session
with_position x p = record x { position = min p (length x.choices) }

-- Truncates the choices at the position, appends one, and moves after it.
abbrev pub with_pick : Session → ℕ → Session
with_pick x t = record x { choices = take x.position x.choices ++ t ∷ []; position = x.position + 1 }

-- ---- Breakpoints

-- Returns the number of a method that its class itself declares.
abbrev pub method_of_key : List Class → MethodKey → Option MethodNumber
method_of_key program key =
    option_and_then (λ c. option_and_then (λ class. option_map (λ m. record { class = c; method = m }) (declared_number class key.name key.descriptor)) (slice_get program c))
    (class_number program key.class)

-- Decides whether a method's code has this instruction.
abbrev pub has_instruction : List Class → ℕ → MethodNumber → Bool
has_instruction program i n = is_some (option_and_then (λ body. slice_get body.instructions i) (body_at program n))

-- Returns the method of a place, if its code has the instruction.
abbrev pub method_of_place : List Class → Place → Option MethodNumber
method_of_place program place =
    option_and_then (λ n. if has_instruction program place.instruction n then Some n else None)
    (option_and_then (method_of_key program) place.method)

-- Adds a breakpoint with the next number. No number is used again, and the last is 4,294,967,295.
abbrev pub with_breakpoint : Session → ℕ → MethodNumber → Result Session DebugFault
with_breakpoint x i n =
    if nat_lt x.next 4294967296
    then Ok (record x { breakpoints = x.breakpoints ++ record { number = x.next; method = n; instruction = i } ∷ []; next = x.next + 1 })
    else Err fault.NoBreakpoint

abbrev pub with_breakpoint_at : Session → ℕ → Option MethodNumber → Result Session DebugFault
with_breakpoint_at x i None = Err fault.NoPlace
with_breakpoint_at x i (Some n) = with_breakpoint x i n

-- Returns the index of breakpoint k in the list.
abbrev pub breakpoint_index : ℕ → List Breakpoint → Option ℕ
breakpoint_index k breakpoints = place_of_first (λ b. b.number == k) breakpoints

abbrev pub without_breakpoint : Session → Option ℕ → Result Session DebugFault
without_breakpoint x None = Err fault.NoBreakpoint
without_breakpoint x (Some i) = Ok (record x { breakpoints = remove x.breakpoints i })

-- ---- Hits

-- Decides whether a call's frame is at a breakpoint: its next instruction is the breakpoint's.
abbrev pub is_frame_at : Option Frame → Breakpoint → Bool
is_frame_at (Some (stack_frame.Call f)) b =
    (f.method.class == b.method.class) && (f.method.method == b.method.method) && (f.activation.place == b.instruction)
is_frame_at (Some (stack_frame.Initialisation class called)) b = false
is_frame_at None b = false

-- Decides whether a thread has nothing pending and its top frame is at one of these breakpoints.
abbrev pub is_thread_at : List Breakpoint → Option Thread → Bool
is_thread_at breakpoints None = false
is_thread_at breakpoints (Some thread) = not (is_some thread.pending) && list_any (is_frame_at (slice_get thread.frames 0)) breakpoints

-- Decides this for the thread of the next choice.
abbrev pub is_hit_by : List Breakpoint → State → Option ℕ → Bool
is_hit_by breakpoints s None = false
is_hit_by breakpoints s (Some t) = is_thread_at breakpoints (slice_get s.threads t)

-- Decides whether a position is a hit: the thread of the next choice is at a breakpoint. The last position is no hit.
unfoldable pub is_hit : List Class → Limits → Start → Session → ℕ → Bool
is_hit program limits start x n = is_hit_by x.breakpoints (state_after program limits start x.choices n) (slice_get x.choices n)

-- Returns the first number above p, within the next `left` ones, that passes a test. Returns the last of them if none
-- does.
unfoldable pub next_hit : (ℕ → Bool) → ℕ → ℕ → ℕ
next_hit test p zero = p
next_hit test p (suc left) = if test (p + 1) then p + 1 else next_hit test (p + 1) left

-- Returns the greatest number below this one that passes a test, else 0.
unfoldable pub hit_before : (ℕ → Bool) → ℕ → ℕ
hit_before test zero = 0
hit_before test (suc p) = if test p then p else hit_before test p

abbrev pub after_continue : List Class → Limits → Start → Session → Session
after_continue program limits start x = record x { position = next_hit (is_hit program limits start x) x.position (length x.choices - x.position) }

abbrev pub after_continue_back : List Class → Limits → Start → Session → Session
after_continue_back program limits start x = record x { position = hit_before (is_hit program limits start x) x.position }

-- ---- Commands

-- Leaves the session unchanged, or returns the fault if there is nothing to show.
abbrev pub shows : {X : Type 0} → Session → Option X → DebugFault → Result Session DebugFault
shows x what none = ok_or (option_map (λ _. x) what) none

-- Returns the session after a command, or the fault of a refused command.
abbrev pub after : List Class → Limits → Start → Session → Command → Result Session DebugFault
after program limits start x (command.Step n) = Ok (with_position x (x.position + n))
after program limits start x (command.Back n) = Ok (with_position x (x.position - n))
after program limits start x (command.Goto n) = Ok (with_position x n)
after program limits start x command.Continue = Ok (after_continue program limits start x)
after program limits start x command.ReverseContinue = Ok (after_continue_back program limits start x)
after program limits start x (command.Pick t) = Ok (with_pick x t)
after program limits start x (command.Break place) = with_breakpoint_at x place.instruction (method_of_place program place)
after program limits start x (command.Delete k) = without_breakpoint x (breakpoint_index k x.breakpoints)
after program limits start x command.Threads = Ok x
after program limits start x (command.Frames t) = shows x (slice_get (state_of program limits start x).threads t) fault.NoThread
after program limits start x (command.Object r) = shows x (object_at (state_of program limits start x).heap r) fault.NoObject
after program limits start x (command.Class name) = shows x (option_and_then (class_number program) name) fault.NoPlace
after program limits start x command.Trace = Ok x
after program limits start x command.Output = Ok x
