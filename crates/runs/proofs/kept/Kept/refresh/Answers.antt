use Rattle.runs.proofs.KeptThreads.{refreshed}
use Rattle.runs.proofs.kept.Kept.refresh.Goals as goal

pub returns-then-self-clause-threads : goal.returns-then-self-clause-threads
returns-then-self-clause-threads c = (c.requires.current c.if-self.true).enabled

pub returns-clause-kept : goal.returns-clause-kept
returns-clause-kept c =
    refreshed c.args.machine.now c.args.self.now c.inspect_all.new.self c.inspect_all.result c.requires c.inspect_all.ensures.kept c.inspect_all.ensures.idle
