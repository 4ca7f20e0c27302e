use Rattle.std.proofs.Common.{◌≡◌, ◌∷◌, [], ◌++◌, Some, option_map, sym, ap, ◌∙◌}
use Rattle.jvms_machine.specs.State.{text}
use Rattle.heap.specs.declared.stored_object.StoredObject.TheVariants as stored
use Rattle.heap.proofs.TakenBack.{last_units, ends, is_there, held_without, seen_without}
use Rattle.heap.proofs.heap.Heap.remove_last_text.Goals as goal

pub returns-in_default : goal.returns-in_default
returns-in_default c = λ before units is.
    absurd (is_there c.self.inside.program.now c.self.inside.objects.items before.objects units (ap (λ h. h.objects) (c.self.view_is ∙ is))
    (ap (option_map (λ u. u.now)) (sym c.in_default.is) ∙ c.last_units.ensures c.self.inside.program.now ∙ ap (last_units c.self.inside.program.now) c.as_slice.ensures.value))

-- The other objects come before the string.
stand_before : (c : goal.Joined-pop) → c.self.inside.objects.items ≡ c.pop.new.self.items ++ stored.Text c.as_slice-2.result.now ∷ []
stand_before c =
    ends c.self.inside.program.now c.self.inside.objects.items c.pop.new.self.items c.as_slice-2.result.now c.self.inside.objects.len c.self.inside.objects.ok.0 c.pop.ensures.rest
    (ap (λ l. Some l) c.as_slice-2.ensures ∙ ap (option_map (λ u. u.now)) (sym c.in-Some.is) ∙ c.last_units.ensures c.self.inside.program.now ∙ ap (last_units c.self.inside.program.now) c.as_slice.ensures.value)

pub invariant_of-self : goal.invariant_of-self
invariant_of-self c =
    held_without c.self.inside.program.now c.self.inside.objects.items c.pop.new.self.items c.self.inside.texts c.remove_matching.new.self c.self.inside.class_objects c.as_slice-2.result.now c.len.result
    (stand_before c) (c.len.ensures ∙ c.self.inside.objects.ok.0) c.self.invariant c.remove_matching.ensures.taken c.remove_matching.ensures.other

pub returns : goal.returns
returns c = λ before units is.
    seen_without c.self.inside.program.now c.self.inside.objects.items c.pop.new.self.items (stored.Text c.as_slice-2.result.now) c.self.inside.elements before (text units) (stand_before c) (c.self.view_is ∙ is)
