use Rattle.std.proofs.Common.{ap, ◌∙◌, arith}
use Rattle.std.proofs.lemmas.List.{take_all}
use Rattle.campaign_text.specs.Joined.{count_of}
use Rattle.campaign_text.proofs.Chains.{count_more}
use Rattle.campaign_text.proofs.joining.count_of.Goals as goal

pub loop-part-preserved : goal.loop-part-preserved
loop-part-preserved c =
    let more = count_more c.args.parts.now c.loop-part.part-index c.part-item.result c.loop-part-test.true c.part-item.is in
    omega (arith, c.in_ok-count.ensures, c.len.ensures, c.loop-part.invariant, more)

pub returns : goal.returns
returns c = c.loop-part.invariant ∙ ap count_of (take_all c.loop-part.part-index c.args.parts.now c.loop-part-test.false)
