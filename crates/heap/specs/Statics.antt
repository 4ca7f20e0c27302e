-- The static fields of a program's machine.
use Rattle.std.specs.Prelude.{List, map}
use Rattle.std.specs.List.{filter}
use Rattle.jvms_program.specs.declared.program.Class.{Class}
use Rattle.jvms_program.specs.declared.program.Field.{Field}
use Rattle.jvms_program.specs.declared.key.FieldKey.{FieldKey}
use Rattle.jvms_program.specs.Program.{field_key}
use Rattle.jvms_machine.specs.declared.value.Value.{Value}
use Rattle.jvms_machine.specs.State.{default_value}
use Rattle.jvms_machine.specs.Opening.{opening_static}

-- The static fields of a program, with their values.
pub record Statics : Type 0 where
  pub program : List Class
  pub fields : List (FieldKey × Value)

-- Returns the value of a class's static field at the opening.
abbrev pub opening_value : Class → Field → Value
opening_value c f = (opening_static (field_key c f, default_value f.field_type)).1

-- Returns the values of a class's static fields among these at the opening.
abbrev pub opening_values : Class → List Field → List Value
opening_values c fields = map (opening_value c) (filter (λ f. f.is_static) fields)
