use Rattle.std.proofs.Common.{arith}
use Rattle.std.proofs.lemmas.Nat.{le-div}
use Rattle.debugger.proofs.timeline.Timeline.last_hit.Goals as goal

pub start_at_checkpoint-requires-clause-within : goal.start_at_checkpoint-requires-clause-within
start_at_checkpoint-requires-clause-within c =
    let t = c.args.self.now in
    let timeline = c.requires.timeline in
    le-div c.args.number t.far t.spacing timeline.spacing.positive (omega (arith, timeline.position, c.requires.within, c.requires.start))
