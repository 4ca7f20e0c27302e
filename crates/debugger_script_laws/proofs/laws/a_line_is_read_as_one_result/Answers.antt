use Rattle.debugger_script_laws.proofs.Readings.{one_result}
use Rattle.debugger_script_laws.proofs.laws.a_line_is_read_as_one_result.Goals as goal

pub returns : goal.returns
returns c = one_result c.words_are_of_one_command.ensures
