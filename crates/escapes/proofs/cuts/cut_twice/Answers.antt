-- After the first such byte there is no other.
use Rattle.escapes.proofs.Cutting.{none_behind}
use Rattle.escapes.proofs.cuts.cut_twice.Goals as goal

pub returns-in_err-second : goal.returns-in_err-second
returns-in_err-second c =
    rw c.from_residual-in_err-second.ensures
    (none_behind c.args.byte c.args.text.now c.in_ok-first.first.now c.in_ok-first.behind.now c.in_ok-first.ensures.exact.0 c.in_ok-first.ensures.exact.1 c.in_err-second.ensures.exact)
