use Rattle.std.proofs.Common.{slice_get, ap, ◌∙◌}
use Rattle.heap.proofs.SlotLaws.{value_of_instance}
use Rattle.heap.proofs.stored_object.StoredObject.value.Goals as goal

pub returns-in-Instance : goal.returns-in-Instance
returns-in-Instance c =
    value_of_instance c.args.self.now c.in-Instance.class c.in-Instance.values c.args.slot c.value_at.result c.in-Instance.is
    (c.value_at.ensures ∙ ap (λ l. slice_get l c.args.slot) c.as_slice.ensures.value)
