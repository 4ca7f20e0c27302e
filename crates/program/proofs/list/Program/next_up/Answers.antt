use Rattle.program.proofs.LinkLaws.{above_known}
use Rattle.program.proofs.list.Program.next_up.Goals as goal

pub returns-else-link-class-clause-up : goal.returns-else-link-class-clause-up
returns-else-link-class-clause-up c =
    let known = c.in_ok-link.ensures in above_known c.args.self.now c.args.class known.0 c.in_ok-link.link.above known.1 known.2.above
