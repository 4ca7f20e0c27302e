use Rattle.jasmin_reader.proofs.NotedMembers.{field_noted}
use Rattle.jasmin_reader.proofs.noted.note_field.Goals as goal

pub returns-in-Field : goal.returns-in-Field
returns-in-Field c =
    field_noted c.put.result c.args.fields.now c.put.new.self c.in-Field.field c.args.statement.now c.in-Field.is c.put.ensures
