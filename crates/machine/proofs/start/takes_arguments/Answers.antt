use Rattle.std.proofs.Common.{◌∙◌}
use Rattle.machine.proofs.EntryLaws.{entry_takes}
use Rattle.machine.proofs.start.takes_arguments.Goals as goal

pub returns-in-Static : goal.returns-in-Static
returns-in-Static c = c.takes_all.ensures ∙ entry_takes c.args.entry.now _ _ _ _ _ _ c.in-Static.is c.as_slice.ensures c.as_slice-in-Static.ensures
