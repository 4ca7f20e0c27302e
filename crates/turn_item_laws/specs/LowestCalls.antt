-- The lowest frame of a thread is a call, from its first call until it has ended.
use Rattle.std.specs.Prelude.{Bool, List, Some, [], false, slice_get, true, ℕ, ◌∷◌, ◌≡◌}
use Rattle.jvms_machine.specs.State.{Frame, Thread}
use Rattle.jvms_machine.specs.declared.state.StackFrame.TheVariants as stack_frame

abbrev pub is_call : Frame → Bool
is_call (stack_frame.Call f) = true
is_call (stack_frame.Initialisation class called) = false

-- Decides whether a stack has a lowest frame that is a call.
abbrev pub ends_in_call : List Frame → Bool
ends_in_call [] = false
ends_in_call (f ∷ []) = is_call f
ends_in_call (f ∷ g ∷ below) = ends_in_call (g ∷ below)

abbrev pub HasLowestCall : Thread → Type 0
HasLowestCall thread = thread.first_call_made ≡ true → thread.ended ≡ false → ends_in_call thread.frames ≡ true

-- Each thread of a state has a call as its lowest frame, from its first call until it has ended.
abbrev pub HaveLowestCalls : List Thread → Type 0
HaveLowestCalls threads = (u : ℕ) (thread : Thread) → slice_get threads u ≡ Some thread → HasLowestCall thread
