use Rattle.debugger_script_laws.proofs.Scripts.{one_script}
use Rattle.debugger_script_laws.proofs.laws.scripts_have_one_answer.Goals as goal

pub returns-clause-written : goal.returns-clause-written
returns-clause-written c = λ read written l m w v old first second p q. (one_script c.words_are_of_one_command.ensures read written l m w v old first second p q).0

pub returns-clause-session : goal.returns-clause-session
returns-clause-session c = λ read written l m w v old first second p q. (one_script c.words_are_of_one_command.ensures read written l m w v old first second p q).1
