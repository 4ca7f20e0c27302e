-- It holds for the object of the reference.
use Rattle.std.proofs.Common.{rules, ◌≡◌, Some}
use Rattle.jvms_machine.specs.State.{object_at}
use Rattle.heap.specs.Stored.{object_of}
use Rattle.heap.proofs.StoredLaws.{holds_there}
use Rattle.heap.proofs.heap.Heap.stored.Goals as goal

pub returns-in-Some : goal.returns-in-Some
returns-in-Some c =
    let there : Some (object_of c.args.self.now.program c.in-Some.object.now) ≡ object_at c.args.self.now.objects c.args.reference = search rules in
    holds_there c.args.self.now.objects c.args.reference _ _ _ there (c.stored.ensures c.args.self.now.program (search rules))
