use Rattle.std.proofs.Common.{◌≡◌, [], ◌∷◌, map, ap, ◌∙◌, subst, OnOk}
use Rattle.jvms_machine.specs.State.{instance_fields}
use Rattle.heap.specs.Objects.{with_new}
use Rattle.heap.specs.Stored.{name_at}
use Rattle.heap.proofs.MakingLaws.{first_shown}
use Rattle.heap.proofs.heap.Heap.new_instance.Goals as goal

pub returns-clause-ok : goal.returns-clause-ok
returns-clause-ok c =
    let are : c.in_ok-values.values.items ≡ map (λ f. f.1) (instance_fields c.args.self.now.program (name_at c.args.self.now.program c.args.class)) =
    c.in_ok-values.ensures ∙ ap (λ p. map (λ f. f.1) (instance_fields p (name_at p c.args.class))) c.program-program.ensures in
    subst (λ o. OnOk c.push_plain.result (c.push_plain.new.self ≡ with_new (o ∷ []) c.args.self.now)) (first_shown c.args.self.now.program c.args.class c.in_ok-values.values are) c.push_plain.ensures.ok
