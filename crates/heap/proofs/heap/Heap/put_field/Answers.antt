use Rattle.std.proofs.Common.{refl, ap, arith}
use Rattle.heap.specs.Objects.{with_slot}
use Rattle.heap.proofs.StoredLaws.{still_held, changed}
use Rattle.heap.proofs.heap.Heap.put_field.Goals as goal

pub invariant_of-self : goal.invariant_of-self
invariant_of-self c =
    still_held c.self.inside.program.now c.self.inside.objects.items c.self.inside.texts c.self.inside.class_objects _ c.index_mut.result.now c.put_value.new.self (with_slot c.args.slot c.args.value)
    c.self.invariant (omega (arith, c.if-place-len.true, c.len.ensures, c.self.inside.objects.ok)) c.index_mut.ensures.value (c.put_value.ensures c.self.inside.program.now)

pub returns-then-place-len : goal.returns-then-place-len
returns-then-place-len c =
    rw (← c.self.view_is)
    (ap (λ l. record { program = c.self.inside.program.now; objects = l; elements = c.self.inside.elements })
    (changed c.self.inside.program.now c.self.inside.objects.items c.self.inside.texts c.self.inside.class_objects _ c.index_mut.result.now c.put_value.new.self (with_slot c.args.slot c.args.value)
    c.self.invariant (omega (arith, c.if-place-len.true, c.len.ensures, c.self.inside.objects.ok)) c.index_mut.ensures.value (c.put_value.ensures c.self.inside.program.now) c.args.reference c.if-reference-eq0.false refl))
