use Rattle.std.proofs.Common.{◌<◌, List, length, subst, sym, arith}
use Rattle.std.proofs.lemmas.Grind.{common_steps}
use Rattle.accesses.specs.Tables.{IsIndexed}
use Rattle.accesses.specs.declared.lasts.PlaceAccesses.{PlaceAccesses}
use Rattle.accesses.specs.declared.place.Place.{Place as Key}
use Rattle.accesses.proofs.Tabled.{indexed_with, read_entry, set_entry}
use Rattle.accesses.proofs.table.note_in.Goals as goal

pub returns-clause-indexed : goal.returns-clause-indexed
returns-clause-indexed c m is =
    let es = c.args.entries.now.items in
    let i = c.args.slot.index in
    let e = c.index_mut-entry.result.now in
    let l = c.note.new.self in
    let less : i < length es = grind (arith, common_steps) in
    let whole = set_entry es i e l (read_entry es i e less c.index_mut-entry.ensures.value) in
    subst (λ (fs : List (Key × PlaceAccesses)). IsIndexed m fs) (sym whole) (indexed_with m es i l is)

pub returns-clause-noted : goal.returns-clause-noted
returns-clause-noted c =
    let es = c.args.entries.now.items in
    let i = c.args.slot.index in
    let e = c.index_mut-entry.result.now in
    let less : i < length es = grind (arith, common_steps) in
    let at = read_entry es i e less c.index_mut-entry.ensures.value in
    record { entry = e; now = c.note.new.self; at = at; noted = c.note.ensures; others = set_entry es i e c.note.new.self at }
