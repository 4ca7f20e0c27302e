use Rattle.std.proofs.Common.{Err, ap, sym}
use Rattle.schedule.proofs.list.ListLeft.parse.Goals as goal

pub returns-in_err-threads-clause-syntax : goal.returns-in_err-threads-clause-syntax
returns-in_err-threads-clause-syntax c = λ h threads written.
    let same = rw h at c.from_residual.ensures.1 in
    c.in_err-threads.ensures.syntax (ap Err (sym same)) threads (written, tt)
