-- The joins of a turn, by the states before and after it (Java SE API, `Thread.join`). Each is of a call of `join` that
-- returns, for a thread that has ended.
use Rattle.std.specs.Option.{option_and_then}
use Rattle.std.specs.Prelude.{Bool, Err, List, None, Ok, Option, Result, Some, [], codes, false, if◌then◌else◌, slice_get, true, ℕ, ◌&&◌, ◌∷◌}
use Rattle.jvms_file.specs.Names.{same_text}
use Rattle.jvms_file.specs.declared.insn.Invoke.{Invoke}
use Rattle.jvms_program.specs.Resolution.{ResolvedMethod, is_static_call, resolved_method}
use Rattle.jvms_program.specs.declared.program.Class.{Class}
use Rattle.jvms_program.specs.declared.program.Instruction.{Instruction}
use Rattle.jvms_program.specs.declared.program.Instruction.TheVariants as instruction
use Rattle.jvms_program.specs.declared.program.MethodReference.{MethodReference}
use Rattle.jvms_program.specs.declared.thrown.Thrown.{Thrown}
use Rattle.jvms_machine.specs.Calls.{receiver_of, selected_method}
use Rattle.jvms_machine.specs.State.{MethodFrame, Object, State, Thread, class_of, object_at}
use Rattle.jvms_machine.specs.Steps.{instruction_at}
use Rattle.jvms_machine.specs.Threads.{thread_of}
use Rattle.jvms_machine.specs.declared.trace.Item.{Item}
use Rattle.jvms_machine.specs.declared.trace.Item.TheVariants as item
use Rattle.jvms_machine.specs.declared.value.Value.{Value}
use Rattle.jvms_machine.specs.declared.value.Value.TheVariants as value
use Rattle.turn_item_laws.specs.Progress.{has_continued, next_call}

abbrev pub is_join : Item → Bool
is_join (item.Join t u) = true
is_join _ = false

-- Returns the reference in a value.
abbrev pub reference_of_value : Value → Option ℕ
reference_of_value (value.Reference q) = Some q
reference_of_value v = None

-- Returns the receiver of a call, which is below its arguments. A static call has none.
abbrev pub receiver_reference : Invoke → MethodReference → List Value → Option ℕ
receiver_reference how r operands =
    if is_static_call how then None else option_and_then reference_of_value (receiver_of r.method_type operands)

-- Returns the method that a call selects for an object, once its reference is resolved.
abbrev pub selected_for : List Class → MethodFrame → Invoke → MethodReference → Object → Result ResolvedMethod Thrown → Option ResolvedMethod
selected_for program f how r o (Err class) = None
selected_for program f how r o (Ok found) = selected_method program f how r (class_of o) found

-- Decides whether a method is `join()V` of `Thread`.
abbrev pub is_thread_join : ResolvedMethod → Bool
is_thread_join m =
    same_text m.class.name (codes "java/lang/Thread") && same_text m.method.name (codes "join")
    && same_text m.method.descriptor (codes "()V")

-- Decides whether a thread exists and has ended.
abbrev pub has_ended : Option Thread → Bool
has_ended None = false
has_ended (Some thread) = thread.ended

abbrev pub ended_thread_of : List Thread → ℕ → Option ℕ
ended_thread_of threads q =
    option_and_then (λ u. if has_ended (slice_get threads u) then Some u else None) (thread_of threads q)

-- Returns the thread that a call of this method for an object joins, if it returns.
abbrev pub joined_by : List Thread → ℕ → Option ResolvedMethod → Option ℕ
joined_by threads q None = None
joined_by threads q (Some m) = if is_thread_join m then ended_thread_of threads q else None

abbrev pub joined_of : List Class → State → MethodFrame → Invoke → MethodReference → ℕ → Option Object → Option ℕ
joined_of program s f how r q None = None
joined_of program s f how r q (Some o) = joined_by s.threads q (selected_for program f how r o (resolved_method program false r))

abbrev pub joined_for : List Class → State → MethodFrame → Invoke → MethodReference → Option ℕ → Option ℕ
joined_for program s f how r None = None
joined_for program s f how r (Some q) = joined_of program s f how r q (object_at s.heap q)

abbrev pub join_items : ℕ → Option ℕ → List Item
join_items t None = []
join_items t (Some u) = item.Join t u ∷ []

-- Returns the joins of a call's instruction, if it succeeds.
abbrev pub join_of : List Class → State → ℕ → MethodFrame → Option Instruction → List Item
join_of program s t f (Some (instruction.Invoke how r)) =
    join_items t (joined_for program s f how r (receiver_reference how r f.activation.operands))
join_of program s t f i = []

abbrev pub join_of_call : List Class → State → ℕ → Option MethodFrame → List Item
join_of_call program s t None = []
join_of_call program s t (Some f) = join_of program s t f (instruction_at f)

-- Returns the joins of thread t: that of its call of `join`, if the call continues after it.
abbrev pub joins_between : List Class → ℕ → State → State → List Item
joins_between program t before after =
    if has_continued t before after then join_of_call program before t (next_call (slice_get before.threads t)) else []
