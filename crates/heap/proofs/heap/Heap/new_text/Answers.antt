use Rattle.std.specs.Option.{option_or}
use Rattle.std.proofs.Common.{◌+◌, cond, length, None, Some, sym, ap, ◌∙◌, subst}
use Rattle.jvms_file.specs.Names.{same_text}
use Rattle.heap.specs.Stored.{AreStored}
use Rattle.text_index.specs.Lookup.{indexed_reference}
use Rattle.heap.proofs.MakingLaws.{text_added}
use Rattle.heap.proofs.heap.Heap.new_text.Goals as goal

pub invariant_of-self-in-Ok : goal.invariant_of-self-in-Ok
invariant_of-self-in-Ok c =
    subst (λ l. AreStored c.self.inside.program.now l c.put.new.self c.self.inside.class_objects) (sym c.in_ok-push.ensures.items)
    (text_added c.self.inside.program.now c.self.inside.objects.items c.self.inside.texts c.put.new.self c.self.inside.class_objects c.args.units.now c.in_ok-share.field-0
    c.self.invariant c.in_ok-share.ensures
    (λ q.
    c.in-Ok.ensures.ok q ∙ ap (λ u. option_or (indexed_reference c.self.inside.texts q) (cond (same_text u q) (Some (length c.as_slice.result.now + 1)) None)) c.as_slice-2.ensures
    ∙ ap (λ l. option_or (indexed_reference c.self.inside.texts q) (cond (same_text c.args.units.now q) (Some (length l + 1)) None)) c.as_slice.ensures.value))
