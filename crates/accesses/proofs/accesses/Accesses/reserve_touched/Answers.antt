use Rattle.std.proofs.Common.{subst}
use Rattle.accesses.specs.Rooms.{IsTouchedAt, Remembered}
use Rattle.accesses.proofs.accesses.Accesses.reserve_touched.Goals as goal

pub ready_guessed-requires : goal.ready_guessed-requires
ready_guessed-requires c =
    let here = c.in-Some.field-0.now in
    (here, subst (λ (r : Remembered). IsTouchedAt r.entries c.at-guess.result c.args.item.now here) c.self.view_is c.in-Some.ensures)
