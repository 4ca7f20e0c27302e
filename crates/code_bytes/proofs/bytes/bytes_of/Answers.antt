use Rattle.code_bytes.proofs.Written.{bytes_answered}
use Rattle.code_bytes.proofs.bytes.bytes_of.Goals as goal

pub returns : goal.returns
returns c = bytes_answered c.collected_bytes.result c.args.starts.now c.args.labels.now c.args.items.now c.args.operands.now c.requires.labels c.requires.numbers c.requires.starts c.collected_bytes.ensures
