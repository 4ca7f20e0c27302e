use Rattle.class_file.proofs.Written.{written_spells}
use Rattle.class_file.proofs.laws.what_is_written_spells.Goals as goal

pub returns : goal.returns
returns c = written_spells
