use Rattle.std.proofs.Common.{arith}
use Rattle.std.proofs.lemmas.Bool.Decides.{nat_tests}
use Rattle.schedule.proofs.Ranges.{any_enabled}
use Rattle.schedule.proofs.threads.has_enabled.Goals as goal

pub returns-then-thread-count : goal.returns-then-thread-count
returns-then-thread-count g c =
    let is = any_enabled (g.T.Threads.passes c.args.threads.now) (g.T.Threads.count c.args.threads.now) c.args.thread in
    rw is (grind (arith, nat_tests))

pub returns-else-thread-count : goal.returns-else-thread-count
returns-else-thread-count g c =
    let is = any_enabled (g.T.Threads.passes c.args.threads.now) (g.T.Threads.count c.args.threads.now) c.args.thread in
    rw is (grind (arith, nat_tests))
