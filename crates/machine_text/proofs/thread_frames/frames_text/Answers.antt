use Rattle.machine.specs.Views.{thread_at}
use Rattle.machine_text.specs.Parts.{frames_of}
use Rattle.machine_text.specs.Threads.{frame_line}
use Rattle.machine_text.proofs.Rests.{one_more}
use Rattle.machine_text.proofs.Views.{frame_is}
use Rattle.machine_text.proofs.thread_frames.frames_text.Goals as goal

pub loop-depth-preserved : goal.loop-depth-preserved
loop-depth-preserved c =
    one_more (frame_line c.args.machine.now.program) (frames_of (thread_at c.args.machine.now c.args.t)) c.loop-depth.depth _ _ _
    (rw (frame_is (thread_at c.args.machine.now c.args.t) c.loop-depth.depth) at c.in_ok-put_frame_at.ensures)
    c.loop-depth.invariant
