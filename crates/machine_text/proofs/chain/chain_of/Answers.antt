use Rattle.std.proofs.Common.{ap, length, arith}
use Rattle.machine_text.proofs.Chains.{one_more}
use Rattle.machine_text.proofs.chain.chain_of.Goals as goal

pub loop-level-preserved : goal.loop-level-preserved
loop-level-preserved c =
    one_more c.args.program.now _ _ _ _ _ _ c.in-Some.class _
    (omega (arith, ap length c.classes-level-end.ensures))
    c.in_ok-push.ensures.items
    c.in-Some.is
    c.superclass-next.ensures
    c.loop-level.invariant
