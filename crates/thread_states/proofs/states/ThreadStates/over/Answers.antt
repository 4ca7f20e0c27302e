use Rattle.std.proofs.Common.{ap, drop, ◌∙◌}
use Rattle.std.specs.Prelude.{Some, None, if◌then◌else◌}
use Rattle.std.specs.BTreeMap.{is_at}
use Rattle.std.specs.Ordering.{nat_cmp}
use Rattle.velodrome.specs.Transactions.{ThreadState, has_atomic}
use Rattle.thread_states.proofs.Changes.{told}
use Rattle.thread_states.proofs.Marks.{any_left_is, found_marked}
use Rattle.thread_states.proofs.states.ThreadStates.over.Goals as goal

pub returns-in-None : goal.returns-in-None
returns-in-None c =
    told (λ l (k : ThreadState). if has_atomic l (drop 1 k.methods) then None else k.transaction) c.args.thread None c.self.inside.spec c.self.inside.threads.entries
    c.args.self.now c.self.view_is c.in-None.ensures.value

pub returns-in-Some : goal.returns-in-Some
returns-in-Some c =
    let lines = c.self.inside.spec in
    let threads = c.self.inside.threads.entries in
    let o = c.in-Some.open.now in
    c.over.ensures
    ∙ ap (λ b. if b then None else o.transaction)
    (any_left_is lines o.methods (found_marked lines (is_at (nat_cmp c.args.thread)) threads o c.self.invariant c.in-Some.ensures.value))
    ∙ told (λ l (k : ThreadState). if has_atomic l (drop 1 k.methods) then None else k.transaction) c.args.thread (Some o) lines threads c.args.self.now c.self.view_is
    c.in-Some.ensures.value
