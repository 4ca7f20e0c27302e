-- The parts of a machine's state that its functions return.
use Rattle.std.specs.Prelude.{ℕ, Bool, true, List, Option, Some, None, slice_get}
use Rattle.std.specs.Option.{option_and_then}
use Rattle.jvms_machine.specs.declared.state.StackFrame.TheVariants as stack_frame
use Rattle.jvms_machine.specs.State.{Object, Thread, Frame}
use Rattle.machine.specs.declared.state.threads.FrameView.{FrameView}
use Rattle.machine.specs.declared.state.threads.FrameView.TheVariants as frame_view
use Rattle.exec_ref.specs.heap.Objects.{class_at}
use Rattle.invoke.specs.machine_parts.Machine.{Machine}

-- ---- Threads

-- Returns the thread of a number, if it was started.
abbrev pub thread_at : Machine → ℕ → Option Thread
thread_at m t = slice_get m.state.threads t

-- Returns the frame of a thread at a depth, where the top has depth 0.
abbrev pub frame_at : Machine → ℕ → ℕ → Option Frame
frame_at m t depth = option_and_then (λ x. slice_get x.frames depth) (thread_at m t)

-- Returns the frame of a view.
abbrev pub frame_of : FrameView → Frame
frame_of (frame_view.Call frame) = stack_frame.Call frame.now
frame_of (frame_view.Initialisation class called) = stack_frame.Initialisation class called

-- ---- Ends of threads

abbrev pub uncaught_in : List Object → Bool → Option ℕ → Option (List ℕ)
uncaught_in heap true (Some exception) = class_at heap exception
uncaught_in heap _ _ = None

-- Returns the class of the exception with which a thread ended.
abbrev pub uncaught : Machine → ℕ → Option (List ℕ)
uncaught m t = option_and_then (λ x. uncaught_in m.state.heap x.ended x.pending) (thread_at m t)
