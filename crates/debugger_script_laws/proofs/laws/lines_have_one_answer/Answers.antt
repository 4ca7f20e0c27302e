use Rattle.debugger_script_laws.proofs.Answers.{one_text}
use Rattle.debugger_script_laws.proofs.laws.lines_have_one_answer.Goals as goal

pub returns-clause-text : goal.returns-clause-text
returns-clause-text c = λ g x y z lines s t p q. (one_text c.words_are_of_one_command.ensures g x y z lines s t p q).0

pub returns-clause-session : goal.returns-clause-session
returns-clause-session c = λ g x y z lines s t p q. (one_text c.words_are_of_one_command.ensures g x y z lines s t p q).1
