-- Values as the debugger writes them (own).
use Rattle.std.specs.Prelude.{ℕ, List, ◌++◌, codes}
use Rattle.std.specs.Fmt.{decimal, signed_decimal}
use Rattle.std.specs.List.{flat_map}
use Rattle.jvms_machine.specs.declared.value.Value.{Value}
use Rattle.jvms_machine.specs.declared.value.Value.TheVariants as value

-- Returns the text of a value: `I:n` of an int, `J:n` and `+` of a long and its second slot, `null`, `R:n`, `ret:i`,
-- and `-` of an unset one.
abbrev pub value_text : Value → List ℕ
value_text (value.Int n) = codes "I:" ++ signed_decimal n
value_text (value.Long n) = codes "J:" ++ signed_decimal n
value_text value.Second = codes "+"
value_text value.Null = codes "null"
value_text (value.Reference r) = codes "R:" ++ decimal r
value_text (value.ReturnAddress i) = codes "ret:" ++ decimal i
value_text value.Unset = codes "-"

-- Returns the values, each after a space.
abbrev pub values_text : List Value → List ℕ
values_text values = flat_map (λ v. codes " " ++ value_text v) values
