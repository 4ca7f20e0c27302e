use Rattle.class_file.proofs.Written.{written_is_read}
use Rattle.class_file.proofs.laws.what_is_written_is_read_again.Goals as goal

pub returns : goal.returns
returns c = written_is_read
