use Rattle.program.proofs.LinkLaws.{here, up_up}
use Rattle.program.proofs.list.Program.is_below.Goals as goal

pub loop-init : goal.loop-init
loop-init c = here c.args.self.now c.args.class

pub loop-preserved : goal.loop-preserved
loop-preserved c =
    let middle = c.in-Some.ensures.class in
    up_up c.args.self.now c.args.class c.loop.at c.in-Some.next middle.0 c.loop.invariant middle.1 c.in-Some.ensures.up
