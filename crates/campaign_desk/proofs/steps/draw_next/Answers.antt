use Rattle.std.proofs.Common.{rules, arith}
use Rattle.campaign_desk.specs.Views.{seat_of}
use Rattle.campaign_desk.proofs.TableSteps.{one_draws}
use Rattle.campaign_desk.proofs.steps.draw_next.Goals as goal

pub fetch_add-requires : goal.fetch_add-requires
fetch_add-requires c =
    (search rules, (let words = c.requires.words in omega arith), one_draws _ _ _ _ c.requires.one c.requires.left)

pub returns-clause-draw : goal.returns-clause-draw
returns-clause-draw c = (c.fetch_add.ensures.2 (seat_of c.args.pass.now.me.0) c.requires.one).0

pub returns-clause-above : goal.returns-clause-above
returns-clause-above c = (c.fetch_add.ensures.2 (seat_of c.args.pass.now.me.0) c.requires.one).1
