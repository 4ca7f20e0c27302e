-- The fields so far have their bytes.
use Rattle.std.proofs.Common.{◌≡◌, ◌++◌, take, flat_map}
use Rattle.class_file.specs.Writing.{field_bytes}
use Rattle.class_file.proofs.writing.member.write_fields.Given as goal

abbrev pub invariant-loop-field : goal.invariant-loop-field
invariant-loop-field l = l.out.items ≡ l.initial.out.items ++ flat_map field_bytes (take l.field-index l.fields)
