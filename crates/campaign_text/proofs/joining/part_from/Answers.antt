use Rattle.std.proofs.Common.{sym}
use Rattle.std.proofs.lemmas.Bool.{ltb-true}
use Rattle.campaign_text.proofs.Chains.{index_in}
use Rattle.campaign_text.proofs.joining.part_from.Goals as goal

pub returns-then-part-job-clause-among : goal.returns-then-part-job-clause-among
returns-then-part-job-clause-among c =
    let there = c.in_ok-part.ensures.lookup in
    index_in c.args.parts.now c.args.place c.in_ok-part.part.now _ (ltb-true _ _ (sym there.0)) there.1
