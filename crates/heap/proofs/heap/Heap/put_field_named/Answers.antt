use Rattle.std.proofs.Common.{ap, ◌∙◌}
use Rattle.heap.proofs.NamedLaws.{named_put, none_named_put}
use Rattle.heap.proofs.heap.Heap.put_field_named.Goals as goal

pub returns-in-Some : goal.returns-in-Some
returns-in-Some c =
    c.put_field.ensures
    ∙ ap (λ l. record c.args.self.now { objects = l })
    (named_put c.args.self.now.program c.args.self.now.objects c.args.field.now c.args.reference c.instances_have_their_fields.ensures c.in-Some.slot c.args.value c.in-Some.ensures)

pub returns-in_default : goal.returns-in_default
returns-in_default c =
    ap (λ l. record c.args.self.now { objects = l })
    (none_named_put c.args.self.now.program c.args.self.now.objects c.args.field.now c.args.reference c.instances_have_their_fields.ensures c.args.value c.in_default.ensures)
