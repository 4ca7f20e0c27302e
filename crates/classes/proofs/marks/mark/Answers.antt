use Rattle.std.proofs.Common.{arith}
use Rattle.classes.proofs.MarkLaws.{one_mark}
use Rattle.classes.proofs.marks.mark.Goals as goal

pub returns : goal.returns
returns c = λ n. one_mark c.args.words.now c.args.class n (omega arith)
