use Rattle.std.proofs.Common.{◌≡◌, ◌+◌, ◌*◌, ◌/◌, length, ap, ◌∙◌, arith}
use Rattle.debugger.specs.Marks.{mark_at}
use Rattle.debugger.specs.Timelines.{setting}
use Rattle.debugger.proofs.timeline.Timeline.start_at_checkpoint.Goals as goal

pub start-requires-clause-mark : goal.start-requires-clause-mark
start-requires-clause-mark c =
    let t = c.args.self.now in
    let is = c.requires.timeline.checkpoints in
    let number = c.args.number in
    let many : 0 + length t.checkpoints.items ≡ t.far / t.spacing + 1 = is.many in
    let place : 0 + number ≡ number = omega arith in
    c.in_ok-mark.ensures ∙ c.index.ensures ∙ is.each number c.index.result.now (omega (arith, c.requires.within)) ∙ ap (λ n. mark_at (setting t) t.choices.items (n * t.spacing)) place
