-- Which threads stay: an exploration doesn't leave them. Patterns of methods say where else threads may be left.
use Rattle.std.specs.Prelude.{ℕ, ◌==◌, Bool, false, not, ◌&&◌, ◌||◌, List, length, Option, Some, None, slice_get}
use Rattle.std.specs.List.{list_any}
use Rattle.std.specs.Option.{option_and_then}
use Rattle.jvms_machine.specs.Start.{Start}
use Rattle.jvms_machine.specs.State.{Frame, State}
use Rattle.jvms_machine.specs.Status.{is_enabled}
use Rattle.jvms_machine.specs.Turn.{turn}
use Rattle.jvms_machine.specs.declared.machine.Limits.{Limits}
use Rattle.jvms_machine.specs.declared.state.StackFrame.TheVariants as stack_frame
use Rattle.jvms_program.specs.Program.{key_of}
use Rattle.jvms_program.specs.declared.key.MethodKey.{MethodKey}
use Rattle.jvms_program.specs.declared.program.Class.{Class}
use Rattle.local_laws.specs.Local.{is_local}
use Rattle.velodrome.specs.Specification.{Specification, is_of}
use Rattle.velodrome.specs.declared.specification.SpecificationLine.{SpecificationLine}

-- Decides whether the pattern of one of these lines includes a method.
abbrev pub includes : Specification → Option MethodKey → Bool
includes lines None = false
includes lines (Some m) = list_any (λ (line : SpecificationLine). is_of line.pattern m) lines

-- Returns the method of a frame. That of an initialisation has none.
abbrev pub method_in : List Class → Option Frame → Option MethodKey
method_in program (Some (stack_frame.Call frame)) = key_of program frame.method
method_in program _ = None

-- Returns the method of a thread's top frame. A thread before its first call has none.
abbrev pub top_method : List Class → State → ℕ → Option MethodKey
top_method program s t =
    method_in program (option_and_then (λ thread. slice_get thread.frames 0) (slice_get s.threads t))

module _ (program : List Class) (limits : Limits) (start : Start) where
  -- Decides whether there are patterns, and none includes the method of the top frame of a thread that is enabled.
  abbrev pub is_outside : Specification → State → ℕ → Bool
  is_outside within s t =
      not (length within == 0) && is_enabled (turn program limits start s t).outcome && not (includes within (top_method program s t))

  -- Decides whether a thread stays: its next turn is local, or it is enabled outside of the methods of the patterns.
  abbrev pub stays : Specification → State → ℕ → Bool
  stays within = λ s t. is_outside within s t || is_local program limits start s t
