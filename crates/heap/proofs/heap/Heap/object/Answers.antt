use Rattle.std.proofs.Common.{◌≡◌, ◌-◌, IfSome, option_map, slice_get, refl, ap, ◌∙◌, subst}
use Rattle.jvms_machine.specs.State.{object_at}
use Rattle.heap.specs.Stored.{object_of, IsKept}
use Rattle.heap.proofs.StoredLaws.{shown_of, kept_of}
use Rattle.heap.proofs.heap.Heap.object.Goals as goal

pub returns-clause-shown : goal.returns-clause-shown
returns-clause-shown c =
    subst (λ s. option_map (λ o. object_of s.program o.now) c.object_at_place.result ≡ object_at s.objects c.args.reference) c.self.view_is
    (shown_of c.self.inside.program.now c.self.inside.objects.items c.args.reference _ c.object_at_place.result c.if-reference-eq0.false refl
    (c.object_at_place.ensures ∙ ap (λ l. slice_get l (c.args.reference - 1)) c.as_slice.ensures.value))

pub returns-clause-kept : goal.returns-clause-kept
returns-clause-kept c =
    subst (λ s. IfSome c.object_at_place.result (λ o. IsKept s.program o.now)) c.self.view_is
    (kept_of c.self.inside.program.now c.self.inside.objects.items c.self.inside.texts c.self.inside.class_objects _ c.object_at_place.result c.self.invariant
    (c.object_at_place.ensures ∙ ap (λ l. slice_get l (c.args.reference - 1)) c.as_slice.ensures.value))
