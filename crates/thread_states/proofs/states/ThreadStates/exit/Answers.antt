use Rattle.std.proofs.Common.{ℕ, refl, sym, subst, ap}
use Rattle.std.specs.Prelude.{List, Some}
use Rattle.std.specs.BTreeMap.{BTreeMap, is_at}
use Rattle.std.specs.Ordering.{nat_cmp}
use Rattle.velodrome.specs.Transactions.{with_exit}
use Rattle.thread_states.specs.declared.open.OpenMethod.{OpenMethod}
use Rattle.thread_states.specs.Open.{Open}
use Rattle.thread_states.specs.Seen.{IsMarked}
use Rattle.thread_states.proofs.Changes.{changes, is_written, marked_after, stays}
use Rattle.thread_states.proofs.Marks.{found_marked, left_marked}
use Rattle.thread_states.proofs.Steps.{after_exit}
use Rattle.thread_states.proofs.states.ThreadStates.exit.Goals as goal

pub returns-in_default-clause-state : goal.returns-in_default-clause-state
returns-in_default-clause-state c =
    stays with_exit c.args.thread c.self.inside.spec c.self.inside.threads.entries c.get_mut.follows.lender-at-none.entries c.args.self.now c.self.view_is
    (ap (λ (m : BTreeMap ℕ Open). m.entries) c.get_mut.follows.holds-at-none) c.in_default.ensures.value refl

pub invariant_of-self-2 : goal.invariant_of-self-2
invariant_of-self-2 c =
    let t = c.args.thread in
    let lines = c.self.inside.spec in
    let old = c.self.inside.threads in
    let p = c.in-Some.open.now in
    let o = c.exit.new.self in
    let P : List OpenMethod → Type 0 = λ ms. IsMarked lines ms in
    marked_after t o lines old (c.get_mut.follows.lender o) (c.get_mut.follows.holds o)
    (subst P (sym c.exit.ensures.methods)
    (left_marked lines p.methods (found_marked lines (is_at (nat_cmp t)) old.entries p c.self.invariant c.in-Some.ensures.value)))
    c.self.invariant

pub returns-clause-state : goal.returns-clause-state
returns-clause-state c =
    let t = c.args.thread in
    let lines = c.self.inside.spec in
    let old = c.self.inside.threads in
    let p = c.in-Some.open.now in
    let o = c.exit.new.self in
    let new = c.get_mut.follows.lender o in
    changes with_exit t (Some p) o lines old.entries new.entries c.args.self.now c.self.view_is c.in-Some.ensures.value
    (is_written t p o old new c.in-Some.ensures.value (c.get_mut.follows.holds o))
    (after_exit lines p o (found_marked lines (is_at (nat_cmp t)) old.entries p c.self.invariant c.in-Some.ensures.value) c.exit.ensures.methods c.exit.ensures.transaction)
