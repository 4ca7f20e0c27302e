-- The first values of fields (JVMS 2.3, 2.4).
use Rattle.std.specs.Prelude.{not, List, map, reverse}
use Rattle.std.specs.List.{filter}
use Rattle.jvms_program.specs.declared.program.Class.{Class}
use Rattle.jvms_program.specs.declared.program.Field.{Field}
use Rattle.jvms_machine.specs.declared.value.Value.{Value}
use Rattle.jvms_machine.specs.State.{default_value}

-- Returns the first values of these fields, without the static ones.
abbrev pub own_values : List Field → List Value
own_values fields = map (λ f. default_value f.field_type) (filter (λ f. not f.is_static) fields)

-- Returns the first values of a class's own fields, in reverse order.
abbrev pub values_down : Class → List Value
values_down c = reverse (own_values c.fields)
