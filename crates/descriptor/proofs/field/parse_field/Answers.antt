use Rattle.descriptor.proofs.Answered.{field_found, field_only}
use Rattle.descriptor.proofs.field.parse_field.Goals as goal

pub returns-clause-found : goal.returns-clause-found
returns-clause-found c = field_found c.args.text.now c.read_field.result c.read_field.ensures

pub returns-clause-only : goal.returns-clause-only
returns-clause-only c = field_only c.args.text.now c.read_field.result c.read_field.ensures
