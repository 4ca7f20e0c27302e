use Rattle.std.proofs.Common.{rules, arith}
use Rattle.campaign_desk.specs.Views.{seat_of}
use Rattle.campaign_desk.proofs.TableSteps.{one_lowers}
use Rattle.campaign_desk.proofs.steps.lower_bound.Goals as goal

pub fetch_min-requires : goal.fetch_min-requires
fetch_min-requires c =
    let words = c.requires.words in
    (search rules, omega arith, one_lowers _ _ _ _ c.requires.one c.args.number)

pub returns-clause-lower : goal.returns-clause-lower
returns-clause-lower c = c.fetch_min.ensures.2 (seat_of c.args.pass.now.me.0) c.requires.one
