use Rattle.std.proofs.Common.{◌∙◌}
use Rattle.campaign_text.proofs.Chains.{one_more}
use Rattle.campaign_text.proofs.joining.chained.Goals as goal

pub loop-place-preserved : goal.loop-place-preserved
loop-place-preserved c =
    one_more c.args.parts.now c.loop-place.results.items c.append.new.results.items c.in-Some.part.now c.loop-place.invariant
    c.in-Some.ensures.among (c.in-Some.ensures.first ∙ c.len.ensures ∙ c.loop-place.results.ok.0) c.in_ok-append.ensures
