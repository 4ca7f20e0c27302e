use Rattle.std.proofs.Common.{◌+◌, ◌/◌, arith}
use Rattle.debugger.specs.Marks.{mark_at}
use Rattle.debugger.specs.States.{setting_of}
use Rattle.debugger.proofs.MarkLaws.{marks_more}
use Rattle.debugger.proofs.reach.Reach.extend.Goals as goal

pub returns-in_ok-push_saved-clause-reach : goal.returns-in_ok-push_saved-clause-reach
returns-in_ok-push_saved-clause-reach c =
    let now = c.grow.new.self in
    let is = c.grow.ensures.reach in
    let places = c.grow.ensures.places in
    let position = c.args.replay.now.position in
    let at = mark_at (setting_of c.args.replay.now.mark.machine) c.args.choices.now in
    record {
      from = omega (arith, is.from, places.1, c.requires.more);
      far = c.requires.within;
      most = omega (arith, places.2);
      spacing = is.spacing;
      ratio = is.ratio;
      ratio_positive = is.ratio_positive;
      ratio_small = is.ratio_small;
      base_small = is.base_small;
      fresh = marks_more at now.spacing (now.from / now.spacing + 1) now.far position now.fresh.items c.push_saved.new.checkpoints.items c.args.replay.now.mark is.spacing.positive (omega (arith, places.1, c.requires.more)) c.grow.ensures.near
          c.if-self-eq0.true c.in_ok-push_saved.ensures.marks c.requires.mark is.fresh;
    }
