-- The results of the parts so far.
use Rattle.std.proofs.Common.{◌≡◌, take}
use Rattle.campaign_text.specs.Joined.{count_of}
use Rattle.campaign_text.proofs.joining.count_of.Given as goal

abbrev pub invariant-loop-part : goal.invariant-loop-part
invariant-loop-part l = l.count ≡ count_of (take l.part-index l.parts)
