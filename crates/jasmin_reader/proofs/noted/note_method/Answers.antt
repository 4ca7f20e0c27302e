use Rattle.jasmin_reader.proofs.NotedMembers.{method_noted}
use Rattle.jasmin_reader.proofs.noted.note_method.Goals as goal

pub returns-in-Some : goal.returns-in-Some
returns-in-Some c =
    method_noted c.put.result c.args.methods.now c.put.new.self c.in-Some.method c.args.method.now c.args.statement.now c.in-EndMethod.is c.in-Some.is c.put.ensures
