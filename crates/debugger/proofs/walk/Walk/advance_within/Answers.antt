use Rattle.std.proofs.Common.{◌≤◌, length, arith}
use Rattle.debugger.specs.States.{items_at, setting_of}
use Rattle.debugger.proofs.RunLaws.{items_fewer}
use Rattle.debugger.proofs.walk.Walk.advance_within.Goals as goal

pub returns-clause-walk : goal.returns-clause-walk
returns-clause-walk c =
    let old = c.args.self.now in
    let g = setting_of old.replay.mark.machine in
    let cs = c.args.choices.now in
    let is = c.requires.walk in
    let gone = c.in_ok-advance.ensures in
    let from = old.reach.from in
    let place = c.advance.new.self.position in
    let within : place ≤ from = omega (arith, gone.end, is.far, c.requires.far, c.requires.more, c.min-most.ensures) in
    let fewer : length (items_at g cs place) ≤ length (items_at g cs from) = items_fewer g cs place from within in
    record {
      replay = gone.replay (omega (arith, fewer, is.few));
      reach = is.reach;
      far = omega (arith, is.far, within, c.requires.far, c.requires.more);
      few = is.few;
      items = is.items;
    }
