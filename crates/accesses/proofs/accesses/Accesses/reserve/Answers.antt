use Rattle.std.proofs.Common.{ℕ, subst, sym}
use Rattle.jvms_machine.specs.Events.{thread_of}
use Rattle.accesses.specs.Accesses.{OfThread, main_at}
use Rattle.accesses.specs.Rooms.{IsEntryOf, IsReady, Remembered}
use Rattle.accesses.proofs.Entries.{on_ok, ready_main}
use Rattle.accesses.proofs.accesses.Accesses.reserve.Goals as goal

pub returns-clause-room : goal.returns-clause-room
returns-clause-room c =
    let place = OfThread (thread_of c.args.item.now) in
    let index = c.in_ok-entry.entry in
    let new = c.reserve_touched.new.self in
    let there = subst (λ (r : Remembered). IsEntryOf r.entries index place) (sym c.self.view_is) c.in_ok-entry.ensures.ready in
    let moved = c.reserve_touched.ensures.places index place there in
    let own = subst (λ (n : ℕ). IsReady new.entries n (main_at place)) (sym c.reserve_touched.ensures.own) (ready_main new.entries index place moved) in
    on_ok c.reserve_touched.result (λ touched. record { own = own; touched = touched }) c.reserve_touched.ensures.ready
