use Rattle.std.proofs.Common.{◌∙◌, sym, ap}
use Rattle.monitors.proofs.WaiterLaws.{none_is_taken, oldest_is_taken, without_first, oldest_of}
use Rattle.monitors.proofs.waiters.Waiters.notify_oldest.Goals as goal

pub returns-in-Some : goal.returns-in-Some
returns-in-Some c =
    let items = c.self.inside.waiters.items in
    let found = ap (oldest_of c.args.reference) c.self.view_is ∙ sym c.oldest.ensures.place ∙ c.in-Some.is in
    c.remove.ensures.by_index.2 ∙ oldest_is_taken c.args.reference c.in-Some.place items found ∙ ap (without_first c.args.reference) c.self.view_is

pub returns-in_default : goal.returns-in_default
returns-in_default c = none_is_taken c.args.reference c.args.self.now (sym c.oldest.ensures.place ∙ c.in_default.is)
