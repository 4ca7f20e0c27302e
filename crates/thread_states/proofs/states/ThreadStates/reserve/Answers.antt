use Rattle.std.proofs.Common.{ℕ, ◌<◌, sym, subst}
use Rattle.std.specs.Prelude.{List, Some, None, OnOk}
use Rattle.std.specs.BTreeMap.{is_at}
use Rattle.std.specs.Ordering.{nat_cmp}
use Rattle.thread_states.specs.declared.open.OpenMethod.{OpenMethod}
use Rattle.thread_states.specs.Seen.{IsMarked}
use Rattle.thread_states.proofs.Changes.{nothing_changes, is_written, is_inserted, marked_after, first_marked, room_after}
use Rattle.thread_states.proofs.Marks.{found_marked}
use Rattle.thread_states.proofs.Steps.{as_before, at_first}
use Rattle.thread_states.proofs.states.ThreadStates.reserve.Goals as goal

pub invariant_of-self : goal.invariant_of-self
invariant_of-self c =
    let t = c.args.thread in
    let lines = c.self.inside.spec in
    let old = c.self.inside.threads in
    let p = c.in-Some.open.now in
    let o = c.reserve.new.self in
    let P : List OpenMethod → Type 0 = λ ms. IsMarked lines ms in
    marked_after t o lines old (c.get_mut.follows.lender o) (c.get_mut.follows.holds o)
    (subst P (sym c.reserve.ensures.methods) (found_marked lines (is_at (nat_cmp t)) old.entries p c.self.invariant c.in-Some.ensures.value))
    c.self.invariant

pub returns-in-Some-clause-same : goal.returns-in-Some-clause-same
returns-in-Some-clause-same c =
    let t = c.args.thread in
    let old = c.self.inside.threads in
    let p = c.in-Some.open.now in
    let o = c.reserve.new.self in
    let new = c.get_mut.follows.lender o in
    nothing_changes t (Some p) o c.self.inside.spec old.entries new.entries c.args.self.now c.self.view_is c.in-Some.ensures.value
    (is_written t p o old new c.in-Some.ensures.value (c.get_mut.follows.holds o))
    (as_before p o c.reserve.ensures.methods c.reserve.ensures.transaction)

pub returns-in-Some-clause-room : goal.returns-in-Some-clause-room
returns-in-Some-clause-room c =
    let t = c.args.thread in
    let old = c.self.inside.threads in
    let p = c.in-Some.open.now in
    let o = c.reserve.new.self in
    let new = c.get_mut.follows.lender o in
    let P : ℕ → Type 0 = λ n. OnOk c.reserve.result (0 < n) in
    subst P (room_after t o old.entries new.entries (is_written t p o old new c.in-Some.ensures.value (c.get_mut.follows.holds o))) c.reserve.ensures.room

pub invariant_of-self-in-None : goal.invariant_of-self-in-None
invariant_of-self-in-None c =
    first_marked c.args.thread c.in_ok-open-in-None.open c.self.inside.spec c.self.inside.threads c.get_mut.follows.lender-at-none c.insert.new.self
    c.get_mut.follows.holds-at-none c.in_ok-insert-in-None.ensures.entries c.in_ok-open-in-None.ensures c.self.invariant

pub returns-in_ok-insert-in-None-clause-same : goal.returns-in_ok-insert-in-None-clause-same
returns-in_ok-insert-in-None-clause-same c =
    let t = c.args.thread in
    let old = c.self.inside.threads in
    let o = c.in_ok-open-in-None.open in
    let new = c.insert.new.self in
    nothing_changes t None o c.self.inside.spec old.entries new.entries c.args.self.now c.self.view_is c.in-None.ensures.value
    (is_inserted t o old c.get_mut.follows.lender-at-none new c.get_mut.follows.holds-at-none c.in_ok-insert-in-None.ensures.updates)
    (at_first o c.in_ok-open-in-None.ensures)

pub returns-in_ok-insert-in-None-clause-room : goal.returns-in_ok-insert-in-None-clause-room
returns-in_ok-insert-in-None-clause-room c =
    let t = c.args.thread in
    let old = c.self.inside.threads in
    let o = c.in_ok-open-in-None.open in
    let new = c.insert.new.self in
    let P : ℕ → Type 0 = λ n. 0 < n in
    subst P (room_after t o old.entries new.entries
    (is_inserted t o old c.get_mut.follows.lender-at-none new c.get_mut.follows.holds-at-none c.in_ok-insert-in-None.ensures.updates))
    c.in_ok-open-in-None.ensures.2
