use Rattle.debugger.specs.Marks.{mark_at}
use Rattle.debugger.specs.States.{setting_of}
use Rattle.debugger.proofs.AimLaws.{aim_doubles}
use Rattle.debugger.proofs.reach.Reach.aim.Goals as goal

pub loop-self-preserved : goal.loop-self-preserved
loop-self-preserved c =
    let g = setting_of c.args.mark.now.machine in
    let cs = c.args.choices.now in
    let is = c.loop-self.invariant.aiming in
    let wider = c.widen.ensures in
    record {
      aiming = aim_doubles g cs c.args.place c.args.self.now c.loop-self.self c.widen.new.self is c.loop-self-test.true wider.spacing wider.ratio wider.places (wider.fresh (mark_at g cs) is.fresh);
    }
