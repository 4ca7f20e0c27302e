-- The lines of the frames before the depth are followed by the rest.
use Rattle.std.proofs.Common.{◌≡◌, ◌++◌, drop, flat_map}
use Rattle.std.specs.String.{string_bytes}
use Rattle.machine.specs.Views.{thread_at}
use Rattle.machine_text.specs.Parts.{frames_of}
use Rattle.machine_text.specs.Threads.{frame_line, frames_text}
use Rattle.machine_text.proofs.thread_frames.frames_text.Given as goal

abbrev pub invariant-loop-depth : goal.invariant-loop-depth
invariant-loop-depth l =
    string_bytes l.text ++ flat_map (frame_line l.machine.program) (drop l.depth (frames_of (thread_at l.machine l.t)))
    ≡ frames_text l.machine l.t
