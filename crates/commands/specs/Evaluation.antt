-- Defines the run of a static method by itself, and what is printed of it.
use Rattle.std.specs.Prelude.{ℕ, List, [], ◌∷◌, ◌++◌, Option, Some, None, codes, Result}
use Rattle.std.specs.Fmt.{decimal, signed_decimal}
use Rattle.jvms_machine.specs.declared.machine.Entry.{Entry}
use Rattle.jvms_machine.specs.declared.value.Value.{Value}
use Rattle.jvms_machine.specs.declared.value.Value.TheVariants as value
use Rattle.inputs.specs.declared.input.Input.{Input}
use Rattle.program_runs.specs.Shown.{Shown}
use Rattle.schedule.specs.Choosers.{Alone}
use Rattle.judge.specs.Programs.{NotRun}
use Rattle.judge.specs.Shown.{run_judged}
use Rattle.commands.specs.Limits.{default_limits}

-- Returns what the run by thread 0 alone shows, for at most 1,000,000 turns.
abbrev pub eval_result : List Input → Entry → Result Shown NotRun
eval_result inputs entry = run_judged 1000000 Alone default_limits inputs entry

-- Returns the text of a value: an int or a long in decimal, and a reference as null or R:n.
abbrev pub value_text : Value → List ℕ
value_text (value.Int n) = signed_decimal n
value_text (value.Long n) = signed_decimal n
value_text value.Second = codes "+"
value_text value.Null = codes "null"
value_text (value.Reference r) = codes "R:" ++ decimal r
value_text (value.ReturnAddress i) = codes "ret:" ++ decimal i
value_text value.Unset = codes "-"

-- Returns the line of a result, or nothing if there is none.
abbrev pub result_text : Option Value → List ℕ
result_text None = []
result_text (Some v) = value_text v ++ 10 ∷ []
