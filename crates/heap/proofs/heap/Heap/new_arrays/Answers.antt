use Rattle.std.proofs.Common.{◌≡◌, ◌+◌, ◌++◌, length, map, sym, ap, ◌∙◌, subst}
use Rattle.std.proofs.lemmas.List.{map-append}
use Rattle.jvms_machine.specs.Heap.{new_arrays}
use Rattle.heap.specs.Stored.{object_of, AreStored}
use Rattle.heap.proofs.ArrayLaws.{all_added}
use Rattle.heap.proofs.StoredLaws.{as_many_shown}
use Rattle.heap.proofs.heap.Heap.new_arrays.Goals as goal

pub invariant_of-self-2 : goal.invariant_of-self-2
invariant_of-self-2 c =
    let p = c.self.inside.program.now in
    let objects = c.self.inside.objects.items in
    let made = c.in_ok-made.ensures in
    subst (λ l. AreStored p l c.self.inside.texts c.self.inside.class_objects) (sym (c.in_ok-append.ensures.items ∙ ap (λ l. objects ++ l) made.put))
    (all_added p objects made.new c.self.inside.texts c.self.inside.class_objects c.self.invariant (made.kept p) made.plain)

pub returns-clause-ok : goal.returns-clause-ok
returns-clause-ok c =
    let p = c.self.inside.program.now in
    let objects = c.self.inside.objects.items in
    let made = c.in_ok-made.ensures in
    let all : map (object_of p) c.append.new.self.items ≡ map (object_of p) objects ++ new_arrays (length (map (object_of p) objects) + 1) c.args.class.now c.args.lengths.now =
    ap (map (object_of p)) (c.in_ok-append.ensures.items ∙ ap (λ l. objects ++ l) made.put) ∙ map-append (object_of p) objects made.new
    ∙ ap (λ l. map (object_of p) objects ++ l) (made.show p)
    ∙ ap (λ n. map (object_of p) objects ++ new_arrays (n + 1) c.args.class.now c.args.lengths.now) (ap length c.as_slice.ensures.value ∙ as_many_shown p objects) in
    rw (← c.self.view_is)
    (ap (λ l. record { program = p; objects = l; elements = c.self.inside.elements + c.elements_made.result }) all
    ∙ ap (λ n. record { program = p; objects = map (object_of p) objects ++ new_arrays (length (map (object_of p) objects) + 1) c.args.class.now c.args.lengths.now; elements = c.self.inside.elements + n }) c.elements_made.ensures)
