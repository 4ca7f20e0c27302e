use Rattle.std.proofs.Common.{◌≡◌, ◌+◌, ◌∷◌, drop, refl, sym, subst, rules, arith}
use Rattle.jvms_machine.specs.Heap.{new_arrays}
use Rattle.heap.specs.Arrays.{AppendsArrays}
use Rattle.heap.proofs.ArrayLaws.{leaf, no_parts, parts_begun, part_made, whole}
use Rattle.heap.proofs.arrays.+make_arrays.Goals as goal

pub returns-in_default : goal.returns-in_default
returns-in_default t c =
    leaf c.args.made.now.items c.push.new.self.items c.in_ok-first_array.field-0 c.args.reference c.args.count c.args.class.now c.args.rest.now (search rules) c.in_ok-push.ensures.items c.in_ok-first_array.ensures

pub returns-then-count-eq0 : goal.returns-then-count-eq0
returns-then-count-eq0 t c =
    let some : c.args.rest.now ≡ c.in-Some.next_count.now ∷ c.in-Some.more.now = search rules in
    no_parts c.args.made.now.items c.push-then-count-eq0.new.self.items c.in_ok-first_array-2.field-0 c.args.reference c.args.count c.in-Some.next_count.now c.args.class.now c.args.rest.now c.in-Some.more.now
    some c.if-count-eq0.true c.in_ok-push-2.ensures.items c.in_ok-first_array-2.ensures

pub loop-part-init : goal.loop-part-init
loop-part-init t c = parts_begun c.push-2.new.self.items (drop 1 c.args.class.now) c.args.rest.now (c.args.reference + 1) c.arrays_made-size.result (c.args.reference + 1) refl

pub loop-part-preserved : goal.loop-part-preserved
loop-part-preserved t c =
    let some : c.args.rest.now ≡ c.in-Some.next_count.now ∷ c.in-Some.more.now = search rules in
    part_made c.push-2.new.self.items c.loop-part.made.items c.make_arrays.new.made.items (drop 1 c.args.class.now) c.args.rest.now (c.args.reference + 1) c.arrays_made-size.result c.loop-part.part c.loop-part.next _
    c.loop-part.invariant
    (subst (λ l. AppendsArrays c.loop-part.made.items c.make_arrays.new.made.items (new_arrays c.loop-part.next (drop 1 c.args.class.now) l)) (sym some)
    (subst (λ k. AppendsArrays c.loop-part.made.items c.make_arrays.new.made.items (new_arrays c.loop-part.next k (c.in-Some.next_count.now ∷ c.in-Some.more.now))) c.in_ok-component.ensures c.in_ok-make_arrays.ensures))
    refl

pub returns : goal.returns
returns t c =
    let some : c.args.rest.now ≡ c.in-Some.next_count.now ∷ c.in-Some.more.now = search rules in
    whole c.args.made.now.items c.push-2.new.self.items c.loop-part.made.items c.in_ok-array_of_parts.field-0 c.args.reference c.args.count c.in-Some.next_count.now c.loop-part.next c.arrays_made-size.result c.loop-part.part
    c.args.class.now (drop 1 c.args.class.now) c.args.rest.now c.in-Some.more.now some c.arrays_made-size.ensures (omega arith) refl c.in_ok-push-3.ensures.items c.in_ok-array_of_parts.ensures c.loop-part.invariant
