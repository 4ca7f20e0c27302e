use Rattle.debugger_commands.proofs.Reading.{one_command}
use Rattle.debugger_commands.proofs.laws.words_are_of_one_command.Goals as goal

pub returns : goal.returns
returns c = one_command
