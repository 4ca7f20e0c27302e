use Rattle.std.proofs.Common.{Ok, Err}
use Rattle.std.proofs.lemmas.List.Sorted.{searched}
use Rattle.insn.proofs.Searching.{never_falls, at_place, at_none}
use Rattle.insn.proofs.starts.place_among.Goals as goal

pub returns-in-Ok : goal.returns-in-Ok
returns-in-Ok c =
    let f = searched c.args.pcs.now c.args.pc (Ok c.in-Ok.place) c.in-Ok.ensures.position (never_falls c.args.pcs.now c.requires) in
    at_place c.args.pcs.now c.args.pc c.in-Ok.place c.requires f.0 f.1

pub returns-in-Err : goal.returns-in-Err
returns-in-Err c =
    let f = searched c.args.pcs.now c.args.pc (Err c.in-Err.field-0) c.in-Err.ensures.position (never_falls c.args.pcs.now c.requires) in
    at_none c.args.pcs.now c.args.pc c.in-Err.field-0 f.1 f.2
