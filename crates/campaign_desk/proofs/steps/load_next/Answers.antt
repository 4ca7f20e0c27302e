use Rattle.std.proofs.Common.{rules, arith}
use Rattle.campaign_desk.specs.Views.{seat_of}
use Rattle.campaign_desk.proofs.TableSteps.{one_looks}
use Rattle.campaign_desk.proofs.steps.load_next.Goals as goal

pub load-requires : goal.load-requires
load-requires c = (search rules, (let words = c.requires.words in omega arith), one_looks _ _ _ _ c.requires.one)

pub returns-clause-look : goal.returns-clause-look
returns-clause-look c = c.load.ensures.2 (seat_of c.args.pass.now.me.0) c.requires.one
