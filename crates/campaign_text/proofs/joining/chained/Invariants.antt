-- The results so far are those of consecutive parts.
use Rattle.campaign_text.specs.Joined.{AreChained}
use Rattle.campaign_text.proofs.joining.chained.Given as goal

abbrev pub invariant-loop-place : goal.invariant-loop-place
invariant-loop-place l = AreChained l.parts l.results.items
