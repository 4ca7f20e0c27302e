use Rattle.std.proofs.Common.{◌≡◌, ◌+◌, ◌<◌, length, arith}
use Rattle.thread_states.specs.ThreadStates.{thread_state_in}
use Rattle.atom_graph.proofs.Checked.{checker_same}
use Rattle.atom_graph.proofs.Feeding.{begun_fits, event_may_be, happened_right}
use Rattle.atom_graph.proofs.Positions.{next_is, stay_is}
use Rattle.atom_graph.proofs.checker.Checker.event.Goals as goal

pub next-transaction-requires : goal.next-transaction-requires
next-transaction-requires c =
    let few : length c.self.inside.trace.transactions.items < 100000000 = omega arith in
    begun_fits c.self.inside.trace c.prepare_event.new.self c.self.inside.watch c.self.invariant c.prepare_event.ensures.same few

pub event-requires : goal.event-requires
event-requires c =
    let a = c.prepare_event.new.self in
    let is = c.in_ok-position.ensures.position in
    let n_is = next_is c.in_ok-position.position a.threads.lines (thread_state_in a.threads.table c.args.thread) is c.next-transaction.result a.begun c.next-transaction.ensures in
    let s_is = stay_is c.in_ok-position.position a.threads.lines (thread_state_in a.threads.table c.args.thread) is c.of-stay.result c.of-stay.ensures in
    let few : length c.self.inside.trace.transactions.items < 100000000 = omega arith in
    event_may_be c.self.inside.trace c.prepare_event.new.self c.self.inside.watch c.self.invariant c.prepare_event.ensures.same c.args.item.now c.args.thread
    c.next-transaction.result c.of-stay.result c.requires.thread c.requires.event n_is s_is few

pub invariant_of-self-in_err-event : goal.invariant_of-self-in_err-event
invariant_of-self-in_err-event c = checker_same c.self.inside.trace c.prepare_event.new.self c.self.inside.watch c.event.new.self c.self.invariant c.prepare_event.ensures.same c.in_err-event.ensures.err

pub happened-requires-clause-begun : goal.happened-requires-clause-begun
happened-requires-clause-begun c =
    let few : length c.self.inside.trace.transactions.items < 100000000 = omega arith in
    begun_fits c.self.inside.trace c.prepare_event.new.self c.self.inside.watch c.self.invariant c.prepare_event.ensures.same few

pub invariant_of-self-2 : goal.invariant_of-self-2
invariant_of-self-2 c =
    let a = c.prepare_event.new.self in
    let is = c.in_ok-position.ensures.position in
    let n_is = next_is c.in_ok-position.position a.threads.lines (thread_state_in a.threads.table c.args.thread) is c.next-transaction.result a.begun c.next-transaction.ensures in
    let s_is = stay_is c.in_ok-position.position a.threads.lines (thread_state_in a.threads.table c.args.thread) is c.of-stay.result c.of-stay.ensures in
    let count : c.len-events.result + 1 ≡ length c.self.inside.trace.transactions.items + 1 = omega arith in
    happened_right c.self.inside.trace c.prepare_event.new.self c.self.inside.watch c.self.invariant c.prepare_event.ensures.same c.happened.new.self c.event.new.self c.args.item.now c.in_ok-position.copy
    c.args.thread c.next-transaction.result (c.len-events.result + 1) c.of-stay.result c.requires.thread c.requires.event c.in_ok-position.ensures.room.0
    n_is s_is count c.in_ok-event.ensures.ok c.happened.ensures
