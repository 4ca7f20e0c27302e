use Rattle.jvms_program.proofs.ProgramLaws.{files_are_program}
use Rattle.jvms_program.proofs.laws.what_files_mean_is_a_program.Goals as goal

pub returns : goal.returns
returns c = files_are_program
