-- The counts of JVMS 6.5 `multianewarray` from its lengths. They are capped above any limit.
use Rattle.std.specs.Prelude.{ℕ, nat_lt, not, if◌then◌else◌, List, map}
use Rattle.std.specs.List.{list_all, list_any}
use Rattle.jvms_program.specs.declared.program.Class.{Class}
use Rattle.jvms_program.specs.declared.thrown.Thrown.TheVariants as thrown
use Rattle.jvms_program.specs.Resolution.{class_exists}
use Rattle.jvms_machine.specs.declared.value.Value.{Value}
use Rattle.jvms_machine.specs.declared.machine.BadCause.TheVariants as cause
use Rattle.jvms_machine.specs.declared.machine.Limits.{Limits}
use Rattle.jvms_machine.specs.State.{State, Thread}
use Rattle.jvms_machine.specs.Decisions.{TurnDecision, bad}
use Rattle.jvms_machine.specs.Exceptions.{throws}
use Rattle.jvms_machine.specs.Arrays.{is_int, is_negative, length_of_value, new_arrays_room}

-- Returns a count, or 2^32 if it is more. No limit allows as many.
abbrev pub capped_count : ℕ → ℕ
capped_count n = if nat_lt 0x100000000 n then 0x100000000 else n

-- Returns the decision on arrays of these lengths, the outermost first.
abbrev pub lengths_decision : List Class → Limits → State → Thread → List ℕ → ℕ → List Value → TurnDecision
lengths_decision program limits s thread class dimensions lengths =
    if not (list_all is_int lengths) then bad cause.Kind
    else (if not (class_exists program class) then throws limits s thread thrown.NoClassDefFoundError
    else (if list_any is_negative lengths then throws limits s thread thrown.NegativeArraySizeException
    else new_arrays_room limits s thread class dimensions (map length_of_value lengths)))
