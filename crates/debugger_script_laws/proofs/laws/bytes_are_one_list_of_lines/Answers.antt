use Rattle.debugger_script_laws.proofs.Lines.{one_list_of_lines}
use Rattle.debugger_script_laws.proofs.laws.bytes_are_one_list_of_lines.Goals as goal

pub returns-clause-lines : goal.returns-clause-lines
returns-clause-lines c = λ bytes first second rest other p q. (one_list_of_lines bytes first second rest other p q).0

pub returns-clause-rest : goal.returns-clause-rest
returns-clause-rest c = λ bytes first second rest other p q. (one_list_of_lines bytes first second rest other p q).1
