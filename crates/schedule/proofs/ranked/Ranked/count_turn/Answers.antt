use Rattle.std.proofs.Common.{◌<◌, arith, sym}
use Rattle.schedule.proofs.Priorities.{fewer_left}
use Rattle.schedule.proofs.ranked.Ranked.count_turn.Goals as goal

pub invariant_of-self-2 : goal.invariant_of-self-2
invariant_of-self-2 c =
    let r = c.self.inside in
    let down = c.count_down-self-inside in
    let fewer : down.result < r.left =
    fewer_left r.changes down.new.changes r.left down.result c.in-Some.priority down.auto.changes down.ensures.most down.ensures.left (sym c.in-Some.ensures) in
    (omega (arith, fewer, c.self.invariant), omega (arith, c.self.invariant))
