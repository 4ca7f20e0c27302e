-- A turn at an instruction outside of the profile.
use Rattle.std.proofs.Common.{◌≡◌, ℕ, Bool, true, false, List, refl, ap}
use Rattle.std.specs.Prelude.{not, Some, if◌then◌else◌}
use Rattle.jvms_file.specs.declared.insn.LocalUse.{LocalUse}
use Rattle.jvms_file.specs.declared.insn.LocalUse.TheVariants as local_use
use Rattle.jvms_file.specs.declared.insn.Push.{Push}
use Rattle.jvms_file.specs.declared.insn.Push.TheVariants as push
use Rattle.jvms_file.specs.declared.insn.ReturnInsn.{ReturnInsn}
use Rattle.jvms_file.specs.declared.insn.ReturnInsn.TheVariants as returns
use Rattle.jvms_file.specs.declared.insn.Simple.{Simple}
use Rattle.jvms_file.specs.declared.insn.Simple.TheVariants as simple
use Rattle.jvms_program.specs.declared.program.Body.{Body}
use Rattle.jvms_program.specs.declared.program.Class.{Class}
use Rattle.jvms_program.specs.declared.program.Instruction.{Instruction}
use Rattle.jvms_program.specs.declared.program.Instruction.TheVariants as instruction
use Rattle.jvms_program.specs.declared.program.Loadable.{Loadable}
use Rattle.jvms_program.specs.declared.program.Loadable.TheVariants as loadable
use Rattle.jvms_program.specs.declared.program.Method.{Method}
use Rattle.jvms_program.specs.Program.{method_at}
use Rattle.jvms_machine.specs.declared.action.FrameDecision.{FrameDecision}
use Rattle.jvms_machine.specs.declared.action.FrameDecision.TheVariants as decision
use Rattle.jvms_machine.specs.declared.machine.BadCause.TheVariants as cause
use Rattle.jvms_machine.specs.declared.machine.Limits.{Limits}
use Rattle.jvms_machine.specs.Constants.{constant_decision, push_decision}
use Rattle.jvms_machine.specs.Decisions.{bad}
use Rattle.jvms_machine.specs.Locals.{is_profile_kind, local_decision}
use Rattle.jvms_machine.specs.Profile.{is_outside_array, is_outside_class, is_outside_element, is_outside_method, is_outside_use}
use Rattle.jvms_machine.specs.Returns.{method_return_decision}
use Rattle.jvms_machine.specs.State.{Activation, Frame, MethodFrame, State, Thread}
use Rattle.jvms_machine.specs.Steps.{beyond_unless, frame_decision, simple_decision}
use Rattle.jvms_machine.specs.Turn.{frame_turn_decision, instruction_decision, reaching_decision}
use Rattle.needs.specs.Outside.{is_outside, is_outside_constant, is_outside_local, is_outside_push, is_outside_return, is_outside_simple}

abbrev stop : FrameDecision
stop = decision.Stops cause.OutOfProfile

-- A kind outside of the profile takes the second of the two branches of its test.
kind_is_outside : {A : Type 0} (is_inside : Bool) (inside outside : A) → not is_inside ≡ true → (if is_inside then inside else outside) ≡ outside
kind_is_outside true inside outside e = absurd (cc)
kind_is_outside false inside outside e = refl

beyond_stops : (outside : Bool) → outside ≡ true → beyond_unless outside ≡ stop
beyond_stops true e = refl
beyond_stops false e = absurd (cc)

push_stops : (body : Body) (p : Push) (a : Activation) → is_outside_push p ≡ true → push_decision body p a ≡ stop
push_stops body push.Null a e = absurd (cc)
push_stops body (push.Int n) a e = absurd (cc)
push_stops body (push.Long n) a e = absurd (cc)
push_stops body (push.Float n) a e = refl
push_stops body (push.Double n) a e = refl

local_stops : (body : Body) (how : LocalUse) (n : ℕ) (a : Activation) → is_outside_local how ≡ true → local_decision body how n a ≡ stop
local_stops body (local_use.Load k) n a e = kind_is_outside (is_profile_kind k) _ stop e
local_stops body (local_use.Store k) n a e = kind_is_outside (is_profile_kind k) _ stop e
local_stops body local_use.Return n a e = absurd (cc)

constant_stops : (body : Body) (c : Loadable) (a : Activation) → is_outside_constant c ≡ true → constant_decision body c a ≡ stop
constant_stops body (loadable.Integer n) a e = absurd (cc)
constant_stops body (loadable.Float n) a e = refl
constant_stops body (loadable.Long n) a e = absurd (cc)
constant_stops body (loadable.Double n) a e = refl
constant_stops body (loadable.String units) a e = absurd (cc)
constant_stops body (loadable.Class name) a e = absurd (cc)

-- The returning method decides a return.
return_stops : (limits : Limits) (s : State) (t : ℕ) (frame : MethodFrame) (below : List Frame) (m : Method) (how : ReturnInsn) → is_outside_return how ≡ true
    → method_return_decision limits s t frame below how (Some m) ≡ bad cause.OutOfProfile
return_stops limits s t frame below m returns.Void e = absurd (cc)
return_stops limits s t frame below m (returns.Value k) e = kind_is_outside (is_profile_kind k) _ (bad cause.OutOfProfile) e

-- If a frame decides to stop, the turn stops.
stops : (program : List Class) (limits : Limits) (s : State) (t : ℕ) (thread : Thread) (frame : MethodFrame) (below : List Frame) (i : Instruction) (d : FrameDecision)
    → d ≡ stop → instruction_decision program limits s t thread frame below i d ≡ bad cause.OutOfProfile
stops program limits s t thread frame below i d e = ap (instruction_decision program limits s t thread frame below i) e

simple_stops : (program : List Class) (limits : Limits) (s : State) (t : ℕ) (thread : Thread) (frame : MethodFrame) (below : List Frame) (m : Method) (i : Simple)
    → method_at program frame.method ≡ Some m → is_outside_simple i ≡ true
    → instruction_decision program limits s t thread frame below (instruction.Simple i) (simple_decision frame.body i frame.activation) ≡ bad cause.OutOfProfile
unfolding reaching_decision
simple_stops program limits s t thread frame below m simple.Nop found e = absurd (cc)
simple_stops program limits s t thread frame below m (simple.Push p) found e =
    stops program limits s t thread frame below (instruction.Simple (simple.Push p)) _ (push_stops frame.body p frame.activation e)
simple_stops program limits s t thread frame below m (simple.Local how n) found e =
    stops program limits s t thread frame below (instruction.Simple (simple.Local how n)) _ (local_stops frame.body how n frame.activation e)
simple_stops program limits s t thread frame below m (simple.Increment n by) found e = absurd (cc)
simple_stops program limits s t thread frame below m (simple.Stack f) found e = absurd (cc)
simple_stops program limits s t thread frame below m (simple.Int i) found e = absurd (cc)
simple_stops program limits s t thread frame below m (simple.Long i) found e = absurd (cc)
simple_stops program limits s t thread frame below m (simple.Floating i) found e = refl
simple_stops program limits s t thread frame below m (simple.Array i) found e =
    stops program limits s t thread frame below (instruction.Simple (simple.Array i)) _ (beyond_stops (is_outside_array i) e)
simple_stops program limits s t thread frame below m (simple.Return how) found e =
    rw found (return_stops limits s t frame below m how e)
simple_stops program limits s t thread frame below m (simple.Object i) found e = absurd (cc)

pub turn_stops : (program : List Class) (limits : Limits) (s : State) (t : ℕ) (thread : Thread) (frame : MethodFrame) (below : List Frame) (m : Method) (i : Instruction)
    → method_at program frame.method ≡ Some m → is_outside i ≡ true
    → frame_turn_decision program limits s t thread frame below (Some i) ≡ bad cause.OutOfProfile
unfolding frame_decision
turn_stops program limits s t thread frame below m (instruction.Simple i) found e =
    simple_stops program limits s t thread frame below m i found e
turn_stops program limits s t thread frame below m (instruction.Branch how target) found e = absurd (cc)
turn_stops program limits s t thread frame below m (instruction.Table i) found e = absurd (cc)
turn_stops program limits s t thread frame below m (instruction.Lookup i) found e = absurd (cc)
turn_stops program limits s t thread frame below m (instruction.Constant c) found e =
    stops program limits s t thread frame below (instruction.Constant c) _ (constant_stops frame.body c frame.activation e)
turn_stops program limits s t thread frame below m (instruction.Field how r) found e =
    stops program limits s t thread frame below (instruction.Field how r) _ (beyond_stops (is_outside_element r.field_type.element) e)
turn_stops program limits s t thread frame below m (instruction.Invoke how r) found e =
    stops program limits s t thread frame below (instruction.Invoke how r) _ (beyond_stops (is_outside_method r.method_type) e)
turn_stops program limits s t thread frame below m (instruction.Class how name) found e =
    stops program limits s t thread frame below (instruction.Class how name) _ (beyond_stops (is_outside_use how name) e)
turn_stops program limits s t thread frame below m (instruction.MultiNewArray count name) found e =
    stops program limits s t thread frame below (instruction.MultiNewArray count name) _ (beyond_stops (is_outside_class name) e)
