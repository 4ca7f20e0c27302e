use Rattle.std.proofs.Common.{◌<◌, ◌∙◌, List, length, ap, subst, sym, arith}
use Rattle.std.proofs.lemmas.Grind.{common_steps}
use Rattle.accesses.specs.Kept.{HasSpare, kept_in}
use Rattle.accesses.specs.Rooms.{HasRoomAt, IsEntryOf}
use Rattle.accesses.specs.Tables.{IsIndexed}
use Rattle.accesses.specs.declared.lasts.PlaceAccesses.{PlaceAccesses}
use Rattle.accesses.specs.declared.place.Place.{Place as Key}
use Rattle.accesses.proofs.Entries.{is_changed, keeps_place, kept_with_room, on_ok, values_at}
use Rattle.accesses.proofs.Tabled.{indexed_with, read_entry, set_entry}
use Rattle.accesses.proofs.table.make_room_in.Goals as goal

pub returns-clause-indexed : goal.returns-clause-indexed
returns-clause-indexed c m is =
    let es = c.args.entries.now.items in
    let i = c.args.index in
    let e = c.index_mut-entry.result.now in
    let l = c.reserve.new.self in
    let less : i < length es = grind (arith, common_steps) in
    let whole = set_entry es i e l (read_entry es i e less c.index_mut-entry.ensures.value) in
    subst (λ (fs : List (Key × PlaceAccesses)). IsIndexed m fs) (sym whole) (indexed_with m es i l is)

pub returns-clause-same : goal.returns-clause-same
returns-clause-same c =
    let es = c.args.entries.now.items in
    let i = c.args.index in
    let e = c.index_mut-entry.result.now in
    let l = c.reserve.new.self in
    let less : i < length es = grind (arith, common_steps) in
    let at = read_entry es i e less c.index_mut-entry.ensures.value in
    ap kept_in (set_entry es i e l at) ∙ kept_with_room es i e.1 l (values_at es i e at) c.reserve.ensures.main c.reserve.ensures.beside

pub returns-clause-room : goal.returns-clause-room
returns-clause-room c =
    let es = c.args.entries.now.items in
    let i = c.args.index in
    let e = c.index_mut-entry.result.now in
    let l = c.reserve.new.self in
    let less : i < length es = grind (arith, common_steps) in
    let whole = set_entry es i e l (read_entry es i e less c.index_mut-entry.ensures.value) in
    on_ok c.reserve.result (λ spare. subst (λ (fs : List (Key × PlaceAccesses)). HasRoomAt fs i) (sym whole) (is_changed HasSpare es i l spare)) c.reserve.ensures.room

pub returns-clause-places : goal.returns-clause-places
returns-clause-places c n p is =
    let es = c.args.entries.now.items in
    let i = c.args.index in
    let e = c.index_mut-entry.result.now in
    let l = c.reserve.new.self in
    let less : i < length es = grind (arith, common_steps) in
    let whole = set_entry es i e l (read_entry es i e less c.index_mut-entry.ensures.value) in
    subst (λ (fs : List (Key × PlaceAccesses)). IsEntryOf fs n p) (sym whole) (keeps_place es i l n p is)
