-- One more line is added to the table.
use Rattle.atom_spec.proofs.DecisionLaws.{table_of_more}
use Rattle.atom_spec.proofs.spec.table_of.Goals as goal

pub loop-line-preserved : goal.loop-line-preserved
loop-line-preserved c =
    table_of_more c.loop-line.table c.put.new.self c.args.lines.now c.loop-line.line-index c.line-item.result c.loop-line-test.true c.line-item.is c.loop-line.invariant c.in_ok-put.ensures
