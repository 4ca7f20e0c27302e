use Rattle.std.proofs.Common.{◌≡◌, ℕ, List, Some, subst}
use Rattle.jvms_program.specs.declared.key.FieldKey.{FieldKey}
use Rattle.jvms_machine.specs.declared.value.Value.{Value}
use Rattle.jvms_machine.specs.State.{instance, instance_fields, keys, object_at}
use Rattle.heap.proofs.StoredLaws.{have_their_fields}
use Rattle.heap.proofs.heap.Heap.instances_have_their_fields.Goals as goal

pub returns : goal.returns
returns c =
    subst (λ s. (r : ℕ) (class : List ℕ) (fields : List (FieldKey × Value)) → object_at s.objects r ≡ Some (instance class fields) → keys fields ≡ keys (instance_fields s.program class)) c.self.view_is
    (have_their_fields c.self.inside.program.now c.self.inside.objects.items)
