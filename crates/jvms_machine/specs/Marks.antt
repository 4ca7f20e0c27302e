-- The marks of a turn, by the states before and after it: a call is marked when its frame is pushed or popped. A turn
-- changes no other thread's frames.
use Rattle.std.specs.Prelude.{ℕ, ◌-◌, Bool, true, false, List, [], ◌∷◌, ◌++◌, length, take, Option, Some, None, slice_get}
use Rattle.std.specs.List.{flat_map}
use Rattle.jvms_program.specs.declared.program.Class.{Class}
use Rattle.jvms_program.specs.declared.number.MethodNumber.{MethodNumber}
use Rattle.jvms_machine.specs.declared.trace.Item.{Item}
use Rattle.jvms_machine.specs.declared.trace.Item.TheVariants as item
use Rattle.jvms_machine.specs.declared.state.StackFrame.TheVariants as stack_frame
use Rattle.jvms_machine.specs.State.{State, Thread, Frame}
use Rattle.jvms_machine.specs.Actions.{enter_items, exit_items}

-- Decides whether an item is a mark: an entry or an exit. The other items are events.
abbrev pub is_mark : Item → Bool
is_mark (item.Enter t method) = true
is_mark (item.Exit t method) = true
is_mark _ = false

-- Returns the methods of the calls on a stack, the top first.
abbrev pub calls : List Frame → List MethodNumber
calls [] = []
calls (stack_frame.Call f ∷ below) = f.method ∷ calls below
calls (stack_frame.Initialisation class called ∷ below) = calls below

abbrev pub calls_in : Option Thread → List MethodNumber
calls_in None = []
calls_in (Some thread) = calls thread.frames

abbrev pub calls_of : State → ℕ → List MethodNumber
calls_of s t = calls_in (slice_get s.threads t)

-- Returns the exits of the popped calls, then the entries of the pushed ones.
abbrev pub marks_between : List Class → ℕ → List MethodNumber → List MethodNumber → List Item
marks_between program t before after =
    flat_map (exit_items program t) (take (length before - length after) before)
    ++ flat_map (enter_items program t) (take (length after - length before) after)
