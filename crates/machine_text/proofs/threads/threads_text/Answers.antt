use Rattle.std.proofs.Common.{◌<◌, length, arith}
use Rattle.machine_text.specs.Threads.{thread_line}
use Rattle.machine_text.proofs.Rests.{one_more_numbered}
use Rattle.machine_text.proofs.Views.{line_is}
use Rattle.machine_text.proofs.threads.threads_text.Goals as goal

pub loop-t-preserved : goal.loop-t-preserved
loop-t-preserved c =
    let started : c.loop-t.t < length c.args.machine.now.state.threads = omega (arith, c.thread_count-t-end.ensures) in
    one_more_numbered (λ numbered. thread_line c.args.machine.now numbered.0 numbered.1)
    c.args.machine.now.state.threads c.loop-t.t _ _ _
    (rw (line_is c.args.machine.now c.loop-t.t started) at c.in_ok-put_thread.ensures)
    c.loop-t.invariant
