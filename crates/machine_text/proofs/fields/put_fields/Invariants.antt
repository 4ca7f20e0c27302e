-- The lines are those of the fields before the index.
use Rattle.std.proofs.Common.{◌≡◌, ◌++◌, take, flat_map}
use Rattle.std.specs.List.{filter}
use Rattle.std.specs.String.{string_bytes}
use Rattle.jvms_program.specs.Program.{field_key}
use Rattle.machine_text.specs.Objects.{field_line}
use Rattle.machine_text.specs.Parts.{fields_in, is_in}
use Rattle.machine_text.proofs.fields.put_fields.Given as goal

abbrev pub invariant-loop-field : goal.invariant-loop-field
invariant-loop-field l =
    string_bytes l.out
    ≡ string_bytes l.initial.out
    ++ flat_map (λ f. field_line (fields_in l.machine l.keeper) (field_key l.class f)) (filter (is_in l.keeper) (take l.field-index l.class.fields))
