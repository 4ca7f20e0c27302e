use Rattle.std.proofs.Common.{subst, sym}
use Rattle.accesses.specs.Rooms.{HasRoom, Remembered}
use Rattle.accesses.proofs.Noted.{event, event_alone, event_both, room_left}
use Rattle.accesses.proofs.accesses.Accesses.note.Goals as goal

pub note_at-requires-in-Some : goal.note_at-requires-in-Some
note_at-requires-in-Some c =
    let room = subst (λ (r : Remembered). HasRoom r c.args.item.now) (sym c.self.view_is) c.requires in
    room_left _ c.note_at.new.self.entries (event c.args.number c.args.transaction c.thread_of.result) c.args.item.now c.in-Some.slot room c.in-Some.is c.note_at.ensures

pub returns-in-Some : goal.returns-in-Some
returns-in-Some c =
    let room = subst (λ (r : Remembered). HasRoom r c.args.item.now) (sym c.self.view_is) c.requires in
    rw (← c.self.view_is)
    (event_both _ c.note_at.new.self.entries c.note_at-in-Some.new.self.entries c.args.number c.args.transaction c.thread_of.result c.args.item.now c.in-Some.slot c.thread_of.ensures room c.in-Some.is c.note_at.ensures c.note_at-in-Some.ensures)

pub returns-in-None : goal.returns-in-None
returns-in-None c =
    let room = subst (λ (r : Remembered). HasRoom r c.args.item.now) (sym c.self.view_is) c.requires in
    rw (← c.self.view_is)
    (event_alone _ c.note_at.new.self.entries c.args.number c.args.transaction c.thread_of.result c.args.item.now c.thread_of.ensures room c.in-None.is c.note_at.ensures)
