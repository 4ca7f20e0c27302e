use Rattle.std.specs.Prelude.{None}
use Rattle.std.specs.BTreeMap.{is_at}
use Rattle.std.specs.Ordering.{nat_cmp}
use Rattle.velodrome.specs.Transactions.{ThreadState, has_atomic}
use Rattle.thread_states.proofs.Changes.{told}
use Rattle.thread_states.proofs.Marks.{found_marked}
use Rattle.thread_states.proofs.Positions.{position_told}
use Rattle.thread_states.proofs.states.ThreadStates.position.Goals as goal

pub returns-in-None : goal.returns-in-None
returns-in-None c =
    let lines = c.self.inside.spec in
    let threads = c.self.inside.threads.entries in
    record {
      transaction = told (λ l (k : ThreadState). k.transaction) c.args.thread None lines threads c.args.self.now c.self.view_is c.in-None.ensures.value;
      is_in_atomic = told (λ l (k : ThreadState). has_atomic l k.methods) c.args.thread None lines threads c.args.self.now c.self.view_is c.in-None.ensures.value;
    }

pub returns-in-Some : goal.returns-in-Some
returns-in-Some c =
    let lines = c.self.inside.spec in
    let threads = c.self.inside.threads.entries in
    let o = c.in-Some.open.now in
    position_told c.position.result c.args.thread o lines threads c.args.self.now c.position.ensures.transaction c.position.ensures.is_in_atomic
    (found_marked lines (is_at (nat_cmp c.args.thread)) threads o c.self.invariant c.in-Some.ensures.value) c.self.view_is c.in-Some.ensures.value
