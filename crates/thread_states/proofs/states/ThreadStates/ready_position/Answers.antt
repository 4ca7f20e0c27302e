use Rattle.std.specs.BTreeMap.{is_at}
use Rattle.std.specs.Ordering.{nat_cmp}
use Rattle.thread_states.proofs.Marks.{found_marked}
use Rattle.thread_states.proofs.Positions.{ready_told}
use Rattle.thread_states.proofs.states.ThreadStates.ready_position.Goals as goal

pub returns-in-Some : goal.returns-in-Some
returns-in-Some c =
    let lines = c.self.inside.spec in
    let threads = c.self.inside.threads.entries in
    let o = c.in-Some.open.now in
    ready_told c.ready_position.result c.args.thread o lines threads c.args.self.now
    (found_marked lines (is_at (nat_cmp c.args.thread)) threads o c.self.invariant c.in-Some.ensures.value) c.self.view_is c.in-Some.ensures.value
    c.ready_position.ensures
