use Rattle.exploring.proofs.Split.{level_more}
use Rattle.exploring.proofs.jobs.Jobs.push_child.Goals as goal

pub returns-clause-ok : goal.returns-clause-ok
returns-clause-ok c =
    level_more c.args.self.now c.self.inside.count c.self.inside.each c.self.inside.departures.items c.reserve.new.self.items c.args.parent.now c.extend_from_slice.new.self.items c.push_reserved.new.self.items c.args.added
    c.self.view_is c.self.invariant c.requires c.in_ok-reserve.ensures.items c.in_ok-extend_from_slice.ensures.items c.push_reserved.ensures.items
