use Rattle.std.proofs.Common.{subst, sym}
use Rattle.std.specs.List.{AllByRecursion}
use Rattle.heap.specs.Stored.{IsKept}
use Rattle.heap.proofs.SavedLaws.{group_kept}
use Rattle.heap.proofs.saved.restored.Goals as goal

pub push_copies-requires-clause-objects : goal.push_copies-requires-clause-objects
push_copies-requires-clause-objects c =
    subst (AllByRecursion (IsKept c.args.program.now)) (sym c.as_slice.ensures)
    (group_kept c.args.program.now c.args.groups.now c.loop-group.group-index c.group-item.result c.group-item.result c.loop-group-test.true c.group-item.is c.requires)
