use Rattle.std.proofs.Common.{subst}
use Rattle.heap.specs.Stored.{AllAlike}
use Rattle.heap.proofs.SameLaws.{shared_shown, shared_kept}
use Rattle.heap.proofs.saved.saved_group.Goals as goal

pub returns-then-are_same-clause-shown : goal.returns-then-are_same-clause-shown
returns-then-are_same-clause-shown c =
    shared_shown c.args.program.now c.args.objects.now c.in-Some.group.now c.share.result (subst (AllAlike c.args.objects.now) c.as_slice.ensures (c.are_same.ensures c.if-are_same.true)) c.share.ensures

pub returns-then-are_same-clause-kept : goal.returns-then-are_same-clause-kept
returns-then-are_same-clause-kept c =
    shared_kept c.args.program.now c.args.objects.now c.in-Some.group.now c.share.result (subst (AllAlike c.args.objects.now) c.as_slice.ensures (c.are_same.ensures c.if-are_same.true)) c.requires c.share.ensures
