use Rattle.std.proofs.Common.{◌<◌, length, subst, arith}
use Rattle.std.proofs.lemmas.Grind.{common_steps}
use Rattle.accesses.specs.Kept.{kept_at, kept_in}
use Rattle.accesses.specs.Links.{AreAt}
use Rattle.accesses.specs.Places.{place_of}
use Rattle.accesses.specs.Tables.{Entries}
use Rattle.accesses.proofs.Tabled.{at_entry, read_entry}
use Rattle.accesses.proofs.table.Table.get.Goals as goal

pub returns-clause-kept : goal.returns-clause-kept
returns-clause-kept c =
    let es = c.self.inside.entries.items in
    let e = c.index-entry.result.now in
    let less : c.args.index < length es = grind (arith, common_steps) in
    let at = read_entry es c.args.index e less c.index-entry.ensures in
    subst (λ (t : Entries). AreAt (kept_in t.entries) (place_of e.0) (kept_at (place_of e.0) e.1)) c.self.view_is
    (at_entry c.self.inside.index es c.args.index e.0 e.1 c.self.invariant at)
