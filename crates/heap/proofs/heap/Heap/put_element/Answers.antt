use Rattle.std.proofs.Common.{refl, sym, ap, subst, IfSome, arith}
use Rattle.jvms_machine.specs.Heap.{with_element}
use Rattle.jvms_machine.specs.State.{object_at}
use Rattle.heap.proofs.StoredLaws.{still_held, changed, suits_held, unchanged}
use Rattle.heap.specs.Objects.{Suits}
use Rattle.heap.proofs.heap.Heap.put_element.Goals as goal

pub invariant_of-self : goal.invariant_of-self
invariant_of-self c =
    still_held c.self.inside.program.now c.self.inside.objects.items c.self.inside.texts c.self.inside.class_objects _ c.index_mut.result.now c.put_element.new.self (with_element c.args.index c.args.value)
    c.self.invariant (omega (arith, c.if-place-len.true, c.len.ensures, c.self.inside.objects.ok)) c.index_mut.ensures.value (c.put_element.ensures c.self.inside.program.now)

pub returns-then-place-len : goal.returns-then-place-len
returns-then-place-len c =
    rw (← c.self.view_is)
    (ap (λ l. record { program = c.self.inside.program.now; objects = l; elements = c.self.inside.elements })
    (changed c.self.inside.program.now c.self.inside.objects.items c.self.inside.texts c.self.inside.class_objects _ c.index_mut.result.now c.put_element.new.self (with_element c.args.index c.args.value)
    c.self.invariant (omega (arith, c.if-place-len.true, c.len.ensures, c.self.inside.objects.ok)) c.index_mut.ensures.value (c.put_element.ensures c.self.inside.program.now) c.args.reference c.if-reference-eq0.false refl))

pub put_element-requires : goal.put_element-requires
put_element-requires c =
    suits_held c.self.inside.program.now c.self.inside.objects.items c.self.inside.texts c.self.inside.class_objects _ c.index_mut.result.now c.index_mut.result.now (λ o. o)
    c.self.invariant (omega (arith, c.if-place-len.true, c.len.ensures, c.self.inside.objects.ok)) c.index_mut.ensures.value (unchanged c.self.inside.program.now c.index_mut.result.now)
    c.args.value c.args.reference c.if-reference-eq0.false refl (subst (λ s. IfSome (object_at s.objects c.args.reference) (Suits c.args.value)) (sym c.self.view_is) c.requires)
