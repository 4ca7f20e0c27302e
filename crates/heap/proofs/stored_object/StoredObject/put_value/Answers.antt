use Rattle.std.proofs.Common.{refl}
use Rattle.std.specs.Vec.{with_item}
use Rattle.heap.proofs.SlotLaws.{slot_put}
use Rattle.heap.proofs.stored_object.StoredObject.put_value.Goals as goal

pub returns-then-slot-len : goal.returns-then-slot-len
returns-then-slot-len c =
    slot_put c.args.self.now _ c.in-Instance.class c.in-Instance.values (with_item c.in-Instance.values c.args.slot c.args.value) c.args.slot c.args.value c.in-Instance.is refl refl
