use Rattle.descriptor.proofs.Answered.{method_found, method_only}
use Rattle.descriptor.proofs.method.parse_method.Goals as goal

pub returns-clause-found : goal.returns-clause-found
returns-clause-found c = method_found c.args.text.now c.read_method.result c.read_method.ensures

pub returns-clause-only : goal.returns-clause-only
returns-clause-only c = method_only c.args.text.now c.read_method.result c.read_method.ensures
