use Rattle.std.proofs.Common.{refl, sym, subst}
use Rattle.std.specs.Prelude.{List, Some}
use Rattle.std.specs.BTreeMap.{is_at}
use Rattle.std.specs.Ordering.{nat_cmp}
use Rattle.velodrome.specs.Transactions.{with_entry}
use Rattle.thread_states.specs.declared.open.OpenMethod.{OpenMethod}
use Rattle.thread_states.specs.Open.{any_atomic}
use Rattle.thread_states.specs.Seen.{IsMarked}
use Rattle.thread_states.proofs.Changes.{changes, is_written, marked_after, room_told, no_room}
use Rattle.thread_states.proofs.Marks.{found_marked}
use Rattle.thread_states.proofs.Steps.{after_enter}
use Rattle.thread_states.proofs.states.ThreadStates.enter.Goals as goal

pub returns-in_default-clause-state : goal.returns-in_default-clause-state
returns-in_default-clause-state c =
    absurd (no_room c.args.thread c.self.inside.spec c.self.inside.threads.entries c.args.self.now c.self.view_is c.in_default.ensures.value c.requires)

pub enter-requires : goal.enter-requires
enter-requires c =
    room_told c.args.thread (Some c.in-Some.open.now) c.self.inside.spec c.self.inside.threads.entries c.args.self.now c.self.view_is c.in-Some.ensures.value c.requires

pub invariant_of-self-2 : goal.invariant_of-self-2
invariant_of-self-2 c =
    let t = c.args.thread in
    let lines = c.self.inside.spec in
    let old = c.self.inside.threads in
    let p = c.in-Some.open.now in
    let o = c.enter.new.self in
    let P : List OpenMethod → Type 0 = λ ms. IsMarked lines ms in
    marked_after t o lines old (c.get_mut.follows.lender o) (c.get_mut.follows.holds o)
    (subst P (sym c.enter.ensures.methods) (c.is_atomic-is_atomic.ensures, found_marked lines (is_at (nat_cmp t)) old.entries p c.self.invariant c.in-Some.ensures.value))
    c.self.invariant

pub returns-clause-state : goal.returns-clause-state
returns-clause-state c =
    let t = c.args.thread in
    let old = c.self.inside.threads in
    let p = c.in-Some.open.now in
    let o = c.enter.new.self in
    let new = c.get_mut.follows.lender o in
    let made : OpenMethod = record { method = c.args.method; is_atomic = c.is_atomic-is_atomic.result; is_inner = any_atomic p.methods } in
    changes (λ l k. with_entry c.args.method k) t (Some p) o c.self.inside.spec old.entries new.entries c.args.self.now c.self.view_is c.in-Some.ensures.value
    (is_written t p o old new c.in-Some.ensures.value (c.get_mut.follows.holds o))
    (after_enter c.args.method p o made refl c.enter.ensures.methods c.enter.ensures.transaction)
