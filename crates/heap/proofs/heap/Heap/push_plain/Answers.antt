use Rattle.std.proofs.Common.{sym, subst}
use Rattle.heap.specs.Stored.{IsKept, AreStored}
use Rattle.heap.proofs.MakingLaws.{plain_added}
use Rattle.heap.proofs.heap.Heap.push_plain.Goals as goal

pub invariant_of-self-2 : goal.invariant_of-self-2
invariant_of-self-2 c =
    subst (λ l. AreStored c.self.inside.program.now l c.self.inside.texts c.self.inside.class_objects) (sym c.in_ok-push.ensures.items)
    (plain_added c.self.inside.program.now c.self.inside.objects.items c.self.inside.texts c.self.inside.class_objects c.args.plain c.self.invariant
    (subst (λ s. IsKept s.program c.args.plain) (sym c.self.view_is) c.requires.kept) c.requires.plain)
