-- Examples: a static call and a return are local, and a call of a synchronized method isn't.
use Rattle.std.proofs.Common.{Bool, List, None, Some, [], codes, false, refl, true, ℕ, ◌∷◌, ◌≡◌}
use Rattle.jvms_file.specs.declared.descriptor.ResultType.TheVariants as result_type
use Rattle.jvms_file.specs.declared.insn.Invoke.TheVariants as invoke
use Rattle.jvms_file.specs.declared.insn.ReturnInsn.TheVariants as returns
use Rattle.jvms_file.specs.declared.insn.Simple.TheVariants as simple
use Rattle.jvms_machine.specs.Examples.{default_limits}
use Rattle.jvms_machine.specs.Start.{Start}
use Rattle.jvms_machine.specs.State.{Frame, State}
use Rattle.jvms_machine.specs.Turn.{decide, reaching_decision}
use Rattle.jvms_machine.specs.Calls.{invoke_decision}
use Rattle.jvms_machine.specs.Steps.{frame_decision}
use Rattle.jvms_machine.specs.declared.state.Initialisation.TheVariants as initialisation
use Rattle.jvms_machine.specs.declared.state.StackFrame.TheVariants as stack_frame
use Rattle.jvms_program.specs.Resolution.{ancestry_within, chain_within, fits}
use Rattle.jvms_program.specs.declared.program.Body.{Body}
use Rattle.jvms_program.specs.declared.program.Class.{Class}
use Rattle.jvms_program.specs.declared.program.ClassKind.TheVariants as class_kind
use Rattle.jvms_program.specs.declared.program.Instruction.{Instruction}
use Rattle.jvms_program.specs.declared.program.Instruction.TheVariants as instruction
use Rattle.jvms_program.specs.declared.program.Method.{Method}
use Rattle.local_laws.specs.Local.{is_local}

abbrev body_of : List Instruction → Body
body_of is = record { max_stack = 0; max_locals = 0; instructions = is; handlers = [] }

abbrev leaves : Body
leaves = body_of (instruction.Simple (simple.Return returns.Void) ∷ [])

abbrev caller : Body
caller =
    body_of (instruction.Invoke invoke.Static
    (record { is_interface = false; class = codes "T"; name = codes "m"; descriptor = codes "()V"; method_type = record { parameters = []; result = result_type.Void } })
    ∷ [])

abbrev method_of : List ℕ → Bool → Body → Method
method_of name is_synchronized body =
    record {
      name = name;
      descriptor = codes "()V";
      method_type = record { parameters = []; result = result_type.Void };
      flags = record { is_static = true; is_private = false; is_synchronized = is_synchronized; is_native = false; is_abstract = false };
      throws = [];
      body = Some body;
    }

abbrev classes : Bool → List Class
classes is_synchronized =
    record {
      name = codes "T";
      kind = class_kind.Neither;
      superclass = None;
      interfaces = [];
      fields = [];
      methods = method_of (codes "m") is_synchronized leaves ∷ method_of (codes "r") false caller ∷ [];
    } ∷ []

abbrev frame_of : ℕ → Body → Frame
frame_of n body =
    stack_frame.Call (record { method = record { class = 0; method = n }; body = body; monitor = None; activation = record { place = 0; locals = []; operands = [] } })

abbrev state_with : List Frame → State
state_with frames =
    record {
      heap = [];
      monitors = [];
      waiters = [];
      statics = [];
      initialisations = initialisation.Done ∷ [];
      threads = record { object = None; frames = frames; pending = None; first_call_made = true; ended = false; waits = None } ∷ [];
      elements = 0;
      output = [];
      result = None;
    }

a_call_is_local : (start : Start) → is_local (classes false) default_limits start (state_with (frame_of 1 caller ∷ [])) 0 ≡ true
unfolding decide frame_decision reaching_decision invoke_decision chain_within ancestry_within fits
a_call_is_local start = refl

a_synchronized_call_is_not : (start : Start) → is_local (classes true) default_limits start (state_with (frame_of 1 caller ∷ [])) 0 ≡ false
unfolding decide frame_decision reaching_decision invoke_decision chain_within ancestry_within fits
a_synchronized_call_is_not start = refl

a_return_is_local : (start : Start) → is_local (classes false) default_limits start (state_with (frame_of 0 leaves ∷ frame_of 1 caller ∷ [])) 0 ≡ true
unfolding decide frame_decision reaching_decision
a_return_is_local start = refl

a_last_return_is_not : (start : Start) → is_local (classes false) default_limits start (state_with (frame_of 0 leaves ∷ [])) 0 ≡ false
unfolding decide frame_decision reaching_decision
a_last_return_is_not start = refl
