use Rattle.std.proofs.Common.{◌/◌, ◌≤◌, arith}
use Rattle.std.proofs.lemmas.Nat.{le-div}
use Rattle.std.proofs.Math.Nat.{div-mul-le_self}
use Rattle.debugger.proofs.timeline.Timeline.nearest.Goals as goal

pub start_at_checkpoint-requires-clause-within : goal.start_at_checkpoint-requires-clause-within
start_at_checkpoint-requires-clause-within c =
    let t = c.args.self.now in
    let number = c.min.result / t.spacing in
    let low = div-mul-le_self c.min.result t.spacing in
    let within : number ≤ t.far / t.spacing = le-div number t.far t.spacing c.requires.timeline.spacing.positive (omega (arith, low)) in
    omega (arith, within)
