-- The fields so far are added.
use Rattle.std.proofs.Common.{map, take}
use Rattle.classes.specs.Declarations.{Adds, field_names}
use Rattle.classes.proofs.declarations.Collection.add_fields.Given as goal

abbrev pub invariant-loop-field : goal.invariant-loop-field
invariant-loop-field l = Adds l.initial.self (map field_names (take l.field-index l.fields)) l.self
