use Rattle.heap.proofs.SameLaws.{instances_alike}
use Rattle.heap.proofs.stored_object.StoredObject.is_same.Goals as goal

pub returns-then-class-other_class : goal.returns-then-class-other_class
returns-then-class-other_class c =
    let i = c.in-Instance-Instance in
    instances_alike c.args.self.now c.args.other.now i.class i.other_class i.values i.other_values c.eq.result i.is-0 i.is-1 c.if-class-other_class.true c.eq.ensures
