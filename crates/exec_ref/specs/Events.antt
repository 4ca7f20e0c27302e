-- The items of field accesses in a trace.
use Rattle.std.specs.Prelude.{if◌then◌else◌, List, Option, None}
use Rattle.jvms_program.specs.declared.program.Class.{Class}
use Rattle.jvms_program.specs.declared.key.FieldKey.{FieldKey}
use Rattle.jvms_program.specs.declared.number.FieldNumber.{FieldNumber}
use Rattle.jvms_program.specs.Program.{field_key_at}
use Rattle.machine_parts.specs.Marks.{is_built_in_number}

-- Returns the key of a field for its items. A field of a built-in class has none.
abbrev pub event_key : List Class → FieldNumber → Option FieldKey
event_key program n = if is_built_in_number program n.class then None else field_key_at program n
